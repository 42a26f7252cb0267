use Rattle.std.proofs.Common.{◌≡◌, drop}
use Rattle.std.specs.List.{flat_map, zip}
use Rattle.name_core.specs.Faults.{first}
use Rattle.sort_core.specs.Sorts.{group_faults}
use Rattle.sort_core.proofs.grammar_sorts.groups_fault.Given as goal

-- the first fault is among what is left
abbrev pub invariant-loop-k : goal.invariant-loop-k
invariant-loop-k l =
    first (flat_map (group_faults l.signature l.pairs) (zip (drop l.k l.pairs) (drop l.k l.groups))) ≡ first (flat_map (group_faults l.signature l.pairs) (zip l.pairs l.groups))
