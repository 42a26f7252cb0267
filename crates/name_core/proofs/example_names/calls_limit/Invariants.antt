use Rattle.std.proofs.Common.{◌≡◌, ◌+◌, ◌≤◌, drop}
use Rattle.name_core.specs.Faults.{first, found_from}
use Rattle.name_core.specs.Limits.{call_limits}
use Rattle.name_core.proofs.example_names.calls_limit.Given as goal

-- the first fault is among what is left
abbrev pub invariant-loop-call : goal.invariant-loop-call
invariant-loop-call l =
    (first (found_from call_limits l.next (drop l.call-index l.calls)) ≡ first (found_from call_limits l.number l.calls)) × (l.next ≡ l.number + l.call-index) × (l.next ≤ 1024)
