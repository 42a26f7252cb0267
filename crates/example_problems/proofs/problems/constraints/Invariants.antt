use Rattle.std.proofs.Common.{◌≡◌, length, All}
use Rattle.problem_core.specs.Soundness.{IsSoundConstraint}
use Rattle.example_problems.specs.Examples.{example, the_type}
use Rattle.example_problems.proofs.problems.constraints.Given as goal

abbrev pub invariant-loop-value : goal.invariant-loop-value
invariant-loop-value l = All (IsSoundConstraint example the_type) l.constraints × (length l.constraints ≡ l.value-index)
