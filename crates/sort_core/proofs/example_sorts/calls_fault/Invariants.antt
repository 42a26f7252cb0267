use Rattle.std.proofs.Common.{◌≡◌, drop}
use Rattle.std.specs.List.{flat_map}
use Rattle.name_core.specs.Faults.{first}
use Rattle.sort_core.specs.Sorts.{example_faults_of}
use Rattle.sort_core.proofs.example_sorts.calls_fault.Given as goal

-- the first fault is among what is left
abbrev pub invariant-loop-call : goal.invariant-loop-call
invariant-loop-call l = first (flat_map (example_faults_of l.signature l.wanted l.owner) (drop l.call-index l.calls)) ≡ first (flat_map (example_faults_of l.signature l.wanted l.owner) l.calls)
