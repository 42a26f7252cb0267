use Rattle.std.proofs.Common.{◌≡◌, drop}
use Rattle.std.specs.List.{flat_map}
use Rattle.syntax_core.specs.Syntax.{items_at}
use Rattle.name_core.specs.Faults.{first, found_from}
use Rattle.name_core.specs.Limits.{production_limits}
use Rattle.name_core.proofs.limits.each_production_limit.Given as goal

-- the first fault is among what is left
abbrev pub invariant-loop-group : goal.invariant-loop-group
invariant-loop-group l =
    first (found_from production_limits l.next (flat_map (items_at 2) (drop l.group-index l.groups)))
    ≡ first (found_from production_limits 0 (flat_map (items_at 2) l.groups))
