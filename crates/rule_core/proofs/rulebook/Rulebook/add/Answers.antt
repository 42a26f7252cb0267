use Rattle.std.proofs.Common.{◌≡◌, ◌<◌, None, nat_eq, length, sym, ◌∙◌, arith, rules}
use Rattle.std.proofs.lemmas.List.{length_push}
use Rattle.sig_core.proofs.SignatureLemmas.{is_none}
use Rattle.rule_core.specs.Flow.{flow_fault}
use Rattle.tables.specs.Tables.{Gains}
use Rattle.rule_core.specs.Numbers.{same_pair}
use Rattle.rule_core.proofs.Flowing.{flow_determines}
use Rattle.rule_core.proofs.Numbered.{HaveNumbers-push}
use Rattle.rule_core.proofs.rulebook.Rulebook.add.Goals as goal

pub returns-clause-determined : goal.returns-clause-determined
returns-clause-determined c =
    let flows : flow_fault c.args.signature.now c.args.rule ≡ None = sym c.in_ok-fault.ensures ∙ is_none c.in_ok-fault.field-0 c.in_default.not-Some in
    flow_determines c.args.signature.now c.args.rule flows

pub invariant_of-self-else-is_err : goal.invariant_of-self-else-is_err
invariant_of-self-else-is_err c =
    let inside = c.self.inside in
    let numbers = c.add-added.new.self in
    let rule = c.args.rule in
    let room : length inside.rules < 16384 = rw c.self.view_is c.requires.room in
    let longer = length_push inside.rules rule in
    let pairs : Gains same_pair inside.numbers.pairs numbers.pairs (rule.relation.0, rule.con.0) (length inside.rules) = search rules in
    let relations : Gains nat_eq inside.numbers.relations numbers.relations rule.relation.0 (length inside.rules) = search rules in
    let constructors : Gains nat_eq inside.numbers.constructors numbers.constructors rule.con.0 (length inside.rules) = search rules in
    rw c.in_ok-push.ensures.ok (
      omega (arith, room, longer),
      HaveNumbers-push inside.numbers numbers inside.rules c.self.invariant.1 rule pairs relations constructors,
    )
