use Rattle.std.proofs.Common.{◌≡◌, ◌++◌, map, drop}
use Rattle.sort_core.specs.Opens.{opened}
use Rattle.sort_core.proofs.opening.+opening.Given as goal

-- what is left makes the rest
abbrev pub invariant-opened_all-loop-e : goal.invariant-opened_all-loop-e
invariant-opened_all-loop-e l = l.opens ++ map (opened l.signature l.variables) (drop l.e-index l.expressions) ≡ map (opened l.signature l.variables) l.expressions
