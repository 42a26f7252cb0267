use Rattle.std.proofs.Common.{arith, ◌≤◌, All, sym, subst}
use Rattle.std.proofs.lemmas.List.{take_all}
use Rattle.std.proofs.lemmas.Option.{get_or_from_slice_get}
use Rattle.std.proofs.lemmas.List.Elements.{All-more}
use Rattle.example_terms.proofs.languages.none_later.Goals as goal

pub loop-k-preserved : goal.loop-k-preserved
loop-k-preserved c =
    let cs = c.args.signature.now.constructors in
    let d = c.constructor-earlier.result.now in
    All-more (λ x. x.owner.0 ≤ c.args.owner.0) cs c.loop-k.k d (omega arith) c.loop-k.invariant
    (subst (λ x. x.owner.0 ≤ c.args.owner.0) (sym (get_or_from_slice_get cs c.loop-k.k d d c.constructor-earlier.ensures)) (omega arith))

pub returns : goal.returns
returns c = λ _. subst (All (λ x. x.owner.0 ≤ c.args.owner.0)) (take_all c.loop-k.k c.args.signature.now.constructors (omega arith)) c.loop-k.invariant
