use Rattle.std.proofs.Common.{◌≡◌, map, take}
use Rattle.solve_core.specs.Examples.{as_example}
use Rattle.solve_core.proofs.example.examples_of.Given as goal

abbrev pub invariant-loop-constraint : goal.invariant-loop-constraint
invariant-loop-constraint l = l.examples ≡ map (as_example l.signature) (take l.constraint-index l.constraint-items)
