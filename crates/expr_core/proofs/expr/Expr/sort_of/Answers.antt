use Rattle.std.proofs.Common.{ap, ◌∙◌, Some}
use Rattle.std.specs.Result.{result_ok}
use Rattle.std.proofs.lemmas.Result.{err_from_is_err_and}
use Rattle.expr_core.proofs.Surveys.{sorted, unsorted}
use Rattle.expr_core.proofs.expr.Expr.sort_of.Goals as goal

pub returns-in_err-check-clause-sort : goal.returns-in_err-check-clause-sort
returns-in_err-check-clause-sort c =
    let told = err_from_is_err_and c.from_residual.result c.from_residual.ensures.1 in
    ap result_ok told.1 ∙ unsorted c.args.scope.now c.args.self.now c.in_err-check.field-0.0 c.in_err-check.ensures.fault

pub returns-clause-sort : goal.returns-clause-sort
returns-clause-sort c = ap Some c.stated_sort.ensures ∙ sorted c.args.scope.now c.args.self.now c.in_ok-check.ensures.fault
