use Rattle.std.proofs.Common.{map, length, slice_index, subst}
use Rattle.std.proofs.lemmas.List.{length-map}
use Rattle.problem_core.specs.Derivations.{IsLeastHeight}
use Rattle.deriv_core.specs.Facts.{tree_fact}
use Rattle.deriv_core.specs.Heights.{heights_of, premises_of}
use Rattle.deriv_core.specs.Steps.{tree_step, tree_steps}
use Rattle.extract_core.specs.Derivings.{AreUsed}
use Rattle.extract_core.specs.Growth.{IsAdded}
use Rattle.extract_core.specs.Growth.{AreReady}
use Rattle.extract_core.specs.Places.{ArePlaces, number_in}
use Rattle.extract_core.proofs.Growing.{if_ok, height_least, grow_none, serves_itself}
use Rattle.extract_core.proofs.Using.{added_used}
use Rattle.extract_core.proofs.derivation.derive.Goals as goal

pub returns-clause-height : goal.returns-clause-height
returns-clause-height c =
    let e = c.args.evaluator.now in
    let bank = c.args.bank.now in
    let fact = tree_fact bank c.args.fact.now in
    let old = tree_steps bank c.args.steps.now in
    let new = tree_steps bank c.add.new.steps in
    if_ok c.add.result (λ id. IsAdded e.signature e.rules c.args.height fact old new id.0) (λ id. IsLeastHeight e.signature e.rules fact (slice_index (heights_of (map premises_of c.add.new.steps)) id.0))
    (λ id added. height_least e.signature e.rules bank fact c.add.new.steps id.0 c.add.ensures.grow.tidy added.there) c.add.ensures.added

pub returns-clause-used : goal.returns-clause-used
returns-clause-used c =
    let e = c.args.evaluator.now in
    let bank = c.args.bank.now in
    let fact = tree_fact bank c.args.fact.now in
    let old = tree_steps bank c.args.steps.now in
    let new = tree_steps bank c.add.new.steps in
    if_ok c.add.result (λ id. IsAdded e.signature e.rules c.args.height fact old new id.0) (λ id. AreUsed (length c.args.steps.now) new id.0)
    (λ id added. subst (λ n. AreUsed n new id.0) (length-map c.args.steps.now (tree_step bank))
    (added_used e.signature e.rules c.args.height old fact new id.0 c.add.ensures.grow.tidy.distinct added.adds added.there)) c.add.ensures.added

pub add-requires-clause-places : goal.add-requires-clause-places
add-requires-clause-places c = subst (λ s. ArePlaces s c.args.steps.now (number_in c.in_ok-places.places)) c.signature.ensures c.in_ok-places.ensures

pub returns-in_err-places-clause-within : goal.returns-in_err-places-clause-within
returns-in_err-places-clause-within c =
    let e = c.args.evaluator.now in
    let bank = c.args.bank.now in
    let ready : AreReady e bank c.args.steps.now = record { stands = c.requires.stands; live = c.requires.steps_live; tidy = c.requires.tidy } in
    (grow_none e e bank c.args.height c.args.steps.now ready (serves_itself e bank c.args.steps.now ready)).within
