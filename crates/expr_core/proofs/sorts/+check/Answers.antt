use Rattle.std.proofs.Common.{◌≡◌, Some, map, sym, ap, ◌∙◌, arith}
use Rattle.std.specs.Result.{result_err}
use Rattle.std.proofs.lemmas.Result.{err_from_is_err_and}
use Rattle.expr_core.specs.declared.expr.Expr.TheVariants.{Apply}
use Rattle.expr_core.specs.Sorts.{wanted_sort}
use Rattle.expr_core.specs.Expressions.{node_count}
use Rattle.expr_core.specs.Faults.{stated_sort}
use Rattle.expr_core.proofs.Equations.{count-Apply}
use Rattle.expr_core.proofs.Checks.{count_here, operands_first, after_operand, fault_here}
use Rattle.expr_core.proofs.sorts.+check.Goals as goal

pub loop-i-init : goal.loop-i-init
loop-i-init t c =
    let scope = c.args.scope.now in
    let op = c.in-Apply.op in
    let ks = c.as_slice-kids.result.now in
    let is : c.args.expr.now ≡ Apply op ks = c.in-Apply.is ∙ ap (Apply op) (sym c.as_slice-kids.ensures) in
    let count = ap node_count is ∙ count-Apply op ks in
    record {
      count = omega (arith, count);
      fault = operands_first scope c.args.wanted c.args.node op ks c.args.expr.now is c.in_default.ensures;
    }

pub returns-in_err-next-clause-fault : goal.returns-in_err-next-clause-fault
returns-in_err-next-clause-fault t c =
    let scope = c.args.scope.now in
    let ks = c.as_slice-kids.result.now in
    let want = wanted_sort c.in-Apply.op (map (stated_sort scope) ks) in
    let l = c.loop-i in
    let told = err_from_is_err_and c.from_residual.result c.from_residual.ensures.1 in
    ap result_err told.1
    ∙ ap Some told.2
    ∙ fault_here scope want l.next l.i ks c.index-kids-i.result c.wanted_sort.result c.in_err-next.field-0.0 (omega arith) c.index-kids-i.is c.wanted_sort.ensures c.in_err-next.ensures.fault
    ∙ l.invariant.fault

pub loop-i-preserved : goal.loop-i-preserved
loop-i-preserved t c =
    let scope = c.args.scope.now in
    let ks = c.as_slice-kids.result.now in
    let want = wanted_sort c.in-Apply.op (map (stated_sort scope) ks) in
    let l = c.loop-i in
    let kid = c.index-kids-i.result in
    let next = c.in_ok-next.ensures.next in
    let here = count_here ks l.i kid (omega arith) c.index-kids-i.is in
    record {
      count = omega (arith, here, next, l.invariant.count);
      fault = after_operand scope want l.next c.in_ok-next.next l.i ks kid c.wanted_sort.result (omega arith) c.index-kids-i.is c.wanted_sort.ensures c.in_ok-next.ensures.fault next ∙ l.invariant.fault;
    }
