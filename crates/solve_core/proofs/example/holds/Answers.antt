use Rattle.std.proofs.Common.{◌≡◌, Contains, All, MatchBool, map, subst}
use Rattle.term_core.specs.Banks.{tree_of}
use Rattle.eval_core.specs.declared.outcome.Outcome.{Outcome}
use Rattle.eval_core.specs.Outcomes.{AreOutcomes}
use Rattle.solve_core.proofs.Verifying.{outputs_tell}
use Rattle.solve_core.proofs.example.holds.Goals as goal

pub returns-clause-holds : goal.returns-clause-holds
returns-clause-holds c =
    let sig = c.args.evaluator.now.signature in
    let rules = c.args.evaluator.now.rules in
    let example = c.args.example.now in
    let tree = tree_of c.args.bank.now c.args.id in
    let list = c.in_ok-outcomes.outcomes in
    let are = subst (λ inputs. AreOutcomes sig rules c.args.height example.relation tree inputs list) c.as_slice-inputs.ensures c.in_ok-outcomes.ensures.outcomes in
    let told = subst (λ outputs. MatchBool c.has_outputs.result (Contains (map (λ (o : Outcome). o.outputs) c.as_slice.result.now) outputs) (All (λ (o : Outcome). ¬ (o.outputs ≡ outputs)) c.as_slice.result.now)) c.as_slice-2.ensures c.has_outputs.ensures in
    let told' = subst (λ outcomes. MatchBool c.has_outputs.result (Contains (map (λ (o : Outcome). o.outputs) outcomes) example.outputs) (All (λ (o : Outcome). ¬ (o.outputs ≡ example.outputs)) outcomes)) c.as_slice.ensures told in
    outputs_tell sig rules c.args.height example.relation tree example.inputs example.outputs list are c.requires.example.outputs c.has_outputs.result told'
