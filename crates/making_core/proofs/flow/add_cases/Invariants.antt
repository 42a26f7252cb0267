use Rattle.std.proofs.Common.{◌≡◌, ◌≤◌, ◌+◌, ◌++◌, drop, length}
use Rattle.std.specs.Prelude.{sum_by}
use Rattle.std.specs.List.{flat_map}
use Rattle.sort_core.specs.declared.branch.OpenCase.{OpenCase}
use Rattle.name_core.specs.Faults.{first}
use Rattle.making_core.specs.Rules.{case_flow, case_rules}
use Rattle.making_core.proofs.flow.add_cases.Given as goal

-- the first fault and the rules are those of what is left
abbrev pub invariant-loop-case : goal.invariant-loop-case
invariant-loop-case l = record {
  among : first (flat_map (case_flow l.signature) (drop l.case-index l.cases)) ≡ first (flat_map (case_flow l.signature) l.cases);
  made : l.rulebook ++ flat_map (case_rules l.signature) (drop l.case-index l.cases) ≡ l.fn.rulebook ++ flat_map (case_rules l.signature) l.cases;
  grown : length l.fn.rulebook ≤ length l.rulebook;
  room : length l.rulebook + sum_by (λ (case : OpenCase). length case.branches) (drop l.case-index l.cases) ≤ 16384;
}
