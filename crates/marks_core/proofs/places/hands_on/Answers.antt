use Rattle.std.proofs.Common.{◌≡◌, ◌↔◌, true, subst}
use Rattle.std.proofs.lemmas.Bool.Decides.{same_from_decides}
use Rattle.rule_core.specs.Flow.{HandsOn}
use Rattle.eval_core.specs.Lenses.{hands_on}
use Rattle.eval_core.proofs.Lawful.{hands_on_by_test}
use Rattle.marks_core.proofs.places.hands_on.Goals as goal

pub returns : goal.returns
returns c =
    let problem = c.args.problem.now in
    let con = c.args.con in
    let i = c.args.i in
    let said : (c.hands_on.result ≡ true) ↔ HandsOn problem.signature problem.rules con i =
    subst (λ sig. (c.hands_on.result ≡ true) ↔ HandsOn sig problem.rules con i) c.signature.ensures.value
    (subst (λ rules. (c.hands_on.result ≡ true) ↔ HandsOn c.signature.result.now rules con i) c.rulebook.ensures.value c.hands_on.ensures) in
    same_from_decides c.hands_on.result (hands_on problem con i) said (hands_on_by_test problem con i)
