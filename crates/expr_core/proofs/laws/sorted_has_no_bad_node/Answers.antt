use Rattle.expr_core.proofs.Surveys.{sorted_has_no_bad_node}
use Rattle.expr_core.proofs.laws.sorted_has_no_bad_node.Goals as goal

pub returns : goal.returns
returns c = sorted_has_no_bad_node
