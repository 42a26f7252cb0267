use Rattle.std.proofs.Common.{◌≡◌, drop}
use Rattle.std.specs.List.{flat_map}
use Rattle.sexpr_core.specs.Access.{parts_of}
use Rattle.name_core.specs.Faults.{first, found_from}
use Rattle.name_core.specs.Limits.{constructor_limits}
use Rattle.name_core.proofs.limits.each_constructor_limit.Given as goal

-- the first fault is among what is left
abbrev pub invariant-loop-group : goal.invariant-loop-group
invariant-loop-group l =
    first (found_from constructor_limits l.next (flat_map parts_of (drop l.group-index l.groups)))
    ≡ first (found_from constructor_limits l.number (flat_map parts_of l.groups))
