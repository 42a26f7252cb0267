use Rattle.expr_core.proofs.Surveys.{length-reasons}
use Rattle.expr_core.proofs.laws.reasons_are_of_nodes.Goals as goal

pub returns : goal.returns
returns c = length-reasons
