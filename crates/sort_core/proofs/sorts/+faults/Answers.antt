use Rattle.std.proofs.Common.{◌∙◌}
use Rattle.sort_core.proofs.Surveys.{inner-Apply}
use Rattle.sort_core.proofs.sorts.+faults.Goals as goal

pub inner_fault-returns-in-Apply : goal.inner_fault-returns-in-Apply
inner_fault-returns-in-Apply t c =
    c.operand_fault.ensures ∙ inner-Apply c.args.slots.now c.args.e.now c.in-Apply.op c.in-Apply.kids c.as_slice.result.now c.in-Apply.is c.as_slice.ensures
