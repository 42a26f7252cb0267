use Rattle.expr_core.proofs.Slots.{on_slots}
use Rattle.expr_core.proofs.laws.only_slots_count.Goals as goal

pub returns : goal.returns
returns c = on_slots
