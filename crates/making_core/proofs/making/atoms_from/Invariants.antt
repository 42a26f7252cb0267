use Rattle.std.proofs.Common.{◌≡◌, ◌++◌, drop}
use Rattle.making_core.specs.Rules.{atoms_from}
use Rattle.making_core.proofs.making.atoms_from.Given as goal

-- what is left makes the rest
abbrev pub invariant-loop-e : goal.invariant-loop-e
invariant-loop-e l = l.atoms ++ atoms_from l.signature l.known (drop l.e-index l.es) ≡ atoms_from l.signature l.fn.known l.es
