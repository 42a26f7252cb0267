use Rattle.std.proofs.Common.{◌≡◌, map, drop}
use Rattle.sig_core.specs.declared.signature.Param.{Param}
use Rattle.name_core.specs.Faults.{first, found_from}
use Rattle.sort_core.specs.Sorts.{example_argument_at}
use Rattle.sort_core.proofs.example_sorts.arguments_fault.Given as goal

-- the first fault is among what is left
abbrev pub invariant-loop-k : goal.invariant-loop-k
invariant-loop-k l =
    first (found_from (example_argument_at l.wanted (map (λ (p : Param). p.kind) l.params)) l.k (drop l.k l.args))
    ≡ first (found_from (example_argument_at l.wanted (map (λ (p : Param). p.kind) l.params)) 0 l.args)
