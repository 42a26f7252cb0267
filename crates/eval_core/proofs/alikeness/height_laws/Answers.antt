use Rattle.eval_core.proofs.LeastHeights.{agreeing_is_same, same_is_agreeing, same_least_heights}
use Rattle.eval_core.proofs.alikeness.height_laws.Goals as goal

pub returns : goal.returns
returns c = record { same = agreeing_is_same; agreeing = same_is_agreeing; least = same_least_heights }
