use Rattle.std.proofs.Common.{◌≡◌, ◌++◌, map, drop}
use Rattle.eval_core.specs.Alikeness.{example_of}
use Rattle.marks_core.proofs.examples.examples_of.Given as goal

abbrev pub invariant-loop-constraint : goal.invariant-loop-constraint
invariant-loop-constraint l = l.examples ++ map (example_of l.signature) (drop l.constraint-index l.constraints) ≡ map (example_of l.signature) l.constraints
