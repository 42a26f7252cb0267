use Rattle.std.proofs.Common.{◌≡◌, take, All}
use Rattle.eval_core.specs.declared.outcome.Outcome.{Outcome}
use Rattle.solve_core.proofs.example.has_outputs.Given as goal

abbrev pub invariant-loop-outcome : goal.invariant-loop-outcome
invariant-loop-outcome l = All (λ (o : Outcome). ¬ (o.outputs ≡ l.outputs)) (take l.outcome-index l.outcomes)
