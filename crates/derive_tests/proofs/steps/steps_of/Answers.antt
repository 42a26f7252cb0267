use Rattle.std.proofs.Common.{sym, subst}
use Rattle.deriv_core.specs.Steps.{tree_steps}
use Rattle.extract_core.specs.Tidiness.{IsTidy}
use Rattle.extract_core.proofs.FirstSteps.{none_tidy}
use Rattle.derive_tests.proofs.steps.steps_of.Goals as goal

pub derive-requires-clause-tidy : goal.derive-requires-clause-tidy
derive-requires-clause-tidy g c =
    let e = c.args.evaluator.now in
    subst (λ steps. IsTidy e.signature e.rules (tree_steps c.args.bank.now steps)) (sym c.new-steps.ensures) (none_tidy e.signature e.rules)
