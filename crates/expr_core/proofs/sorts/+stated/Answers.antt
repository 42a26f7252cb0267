use Rattle.std.proofs.Common.{map, sym, ap, ◌∙◌}
use Rattle.expr_core.specs.Sorts.{stated_result}
use Rattle.expr_core.specs.Faults.{stated_sort}
use Rattle.expr_core.proofs.Surveys.{stated-Apply}
use Rattle.expr_core.proofs.sorts.+stated.Goals as goal

pub stated_sort-returns-in-Apply : goal.stated_sort-returns-in-Apply
stated_sort-returns-in-Apply t c =
    let scope = c.args.scope.now in
    let op = c.in-Apply.op in
    c.stated_result.ensures
    ∙ ap (λ ks. stated_result op (map (stated_sort scope) ks)) c.as_slice.ensures
    ∙ sym (ap (stated_sort scope) c.in-Apply.is ∙ stated-Apply scope op c.in-Apply.kids)
