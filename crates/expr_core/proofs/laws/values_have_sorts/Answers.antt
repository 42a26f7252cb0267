use Rattle.expr_core.proofs.Sorted.{values_have_sorts}
use Rattle.expr_core.proofs.laws.values_have_sorts.Goals as goal

pub returns : goal.returns
returns c = values_have_sorts
