use Rattle.std.proofs.Common.{◌≡◌, drop}
use Rattle.std.specs.List.{flat_map}
use Rattle.name_core.specs.Faults.{first}
use Rattle.name_core.specs.Names.{call_names}
use Rattle.name_core.proofs.example_names.calls_name.Given as goal

-- the first fault is among what is left
abbrev pub invariant-loop-call : goal.invariant-loop-call
invariant-loop-call l = first (flat_map (call_names l.signature l.wanted) (drop l.call-index l.calls)) ≡ first (flat_map (call_names l.signature l.wanted) l.calls)
