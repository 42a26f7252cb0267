use Rattle.expr_core.proofs.Division.{division_is_unique}
use Rattle.expr_core.proofs.laws.division_is_unique.Goals as goal

pub returns : goal.returns
returns c = division_is_unique
