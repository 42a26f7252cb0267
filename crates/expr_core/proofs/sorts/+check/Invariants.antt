use Rattle.std.proofs.Common.{◌≡◌, ◌+◌, map, drop, sum}
use Rattle.expr_core.specs.Sorts.{wanted_sort}
use Rattle.expr_core.specs.Expressions.{node_count}
use Rattle.expr_core.specs.Faults.{first_fault_from, reasons_from, reasons_in, stated_sort, survey}
use Rattle.expr_core.proofs.sorts.+check.Given as goal

abbrev pub decreases-check : goal.decreases-check
decreases-check l = goal.size-check l

-- the numbers of the nodes that are left, and their first fault, which is that of the whole
abbrev pub invariant-loop-i : goal.invariant-loop-i
invariant-loop-i l = record {
  count : l.next + sum (map node_count (drop l.i l.kids)) ≡ l.node + node_count l.expr;
  fault : first_fault_from l.next (reasons_from (wanted_sort l.op (map (stated_sort l.scope) l.kids)) l.i (map (survey l.scope) (drop l.i l.kids))) ≡ first_fault_from l.node (reasons_in l.fn.wanted (survey l.scope l.expr));
}
