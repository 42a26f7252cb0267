use Rattle.std.proofs.Common.{◌≡◌, ◌+◌, ◌++◌, map, drop, length}
use Rattle.std.specs.List.{flat_map}
use Rattle.name_core.specs.Faults.{first}
use Rattle.making_core.specs.Rules.{branch_flow, case_flow, case_rules, rule_of}
use Rattle.making_core.proofs.rules.add_case.Given as goal

-- the first fault and the rules are those of what is left
abbrev pub invariant-loop-branch : goal.invariant-loop-branch
invariant-loop-branch l = record {
  among : first (flat_map (branch_flow l.signature l.case) (drop l.branch-index l.branch-items)) ≡ first (case_flow l.signature l.case);
  made : l.rulebook ++ map (rule_of l.signature l.case.relation l.case.con l.case.kids) (drop l.branch-index l.branch-items) ≡ l.fn.rulebook ++ case_rules l.signature l.case;
  count : length l.rulebook ≡ length l.fn.rulebook + l.branch-index;
}
