use Rattle.expr_core.proofs.Division.{division_exists}
use Rattle.expr_core.proofs.laws.division_exists.Goals as goal

pub returns : goal.returns
returns c = division_exists
