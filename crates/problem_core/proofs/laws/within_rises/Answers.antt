use Rattle.problem_core.proofs.Heights.{Within-rises}
use Rattle.problem_core.proofs.laws.within_rises.Goals as goal

pub returns : goal.returns
returns c = Within-rises
