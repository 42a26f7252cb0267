use Rattle.std.proofs.Common.{◌≡◌, ◌+◌, ◌++◌, drop}
use Rattle.std.specs.List.{flat_map}
use Rattle.sort_core.specs.Branches.{open_cases}
use Rattle.name_core.specs.Faults.{first}
use Rattle.sort_core.specs.Sorts.{definition_faults}
use Rattle.sort_core.proofs.functions.put_functions.Given as goal

-- the first fault and the cases are those of what is left
abbrev pub invariant-loop-k : goal.invariant-loop-k
invariant-loop-k l = record {
  among : first (flat_map (definition_faults l.signature) (drop l.k l.functions)) ≡ first (flat_map (definition_faults l.signature) l.functions);
  made : l.out ++ open_cases l.signature (l.number + l.k) (drop l.k l.functions) ≡ l.fn.out ++ open_cases l.signature l.number l.functions;
}
