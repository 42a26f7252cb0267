use Rattle.std.proofs.Common.{◌≡◌, Some, drop}
use Rattle.std.specs.List.{flat_map}
use Rattle.name_core.specs.Faults.{first}
use Rattle.sort_core.specs.Sorts.{branch_faults}
use Rattle.sort_core.proofs.cases.branches_fault.Given as goal

-- the first fault is among what is left
abbrev pub invariant-loop-branch : goal.invariant-loop-branch
invariant-loop-branch l =
    first (flat_map (branch_faults l.signature (Some l.con) l.sorts) (drop l.branch-index l.branches)) ≡ first (flat_map (branch_faults l.signature (Some l.con) l.sorts) l.branches)
