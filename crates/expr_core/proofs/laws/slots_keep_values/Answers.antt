use Rattle.expr_core.proofs.Slots.{slots_keep_values}
use Rattle.expr_core.proofs.laws.slots_keep_values.Goals as goal

pub returns : goal.returns
returns c = slots_keep_values
