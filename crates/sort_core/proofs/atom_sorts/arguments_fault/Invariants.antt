use Rattle.std.proofs.Common.{◌≡◌, Some, map, drop}
use Rattle.sig_core.specs.declared.signature.Param.{Param}
use Rattle.name_core.specs.Faults.{first, found_from}
use Rattle.sort_core.specs.Sorts.{argument_faults_at}
use Rattle.sort_core.proofs.atom_sorts.arguments_fault.Given as goal

-- the first fault is among what is left
abbrev pub invariant-loop-k : goal.invariant-loop-k
invariant-loop-k l =
    first (found_from (argument_faults_at (Some l.con) l.slots (map (λ (p : Param). p.kind) l.params)) l.k (drop l.k l.args))
    ≡ first (found_from (argument_faults_at (Some l.con) l.slots (map (λ (p : Param). p.kind) l.params)) 0 l.args)
