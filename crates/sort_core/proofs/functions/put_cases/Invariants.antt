use Rattle.std.proofs.Common.{◌≡◌, ◌++◌, map, drop}
use Rattle.std.specs.List.{flat_map}
use Rattle.sort_core.specs.Branches.{open_case}
use Rattle.name_core.specs.Faults.{first}
use Rattle.sort_core.specs.Sorts.{case_faults}
use Rattle.sort_core.proofs.functions.put_cases.Given as goal

-- the first fault and the cases are those of what is left
abbrev pub invariant-loop-case : goal.invariant-loop-case
invariant-loop-case l =
    (first (flat_map (case_faults l.signature l.function l.owner) (drop l.case-index l.cases)) ≡ first (flat_map (case_faults l.signature l.function l.owner) l.cases))
    × (l.out ++ map (open_case l.signature l.relation l.function) (drop l.case-index l.cases) ≡ l.fn.out ++ map (open_case l.signature l.relation l.function) l.cases)
