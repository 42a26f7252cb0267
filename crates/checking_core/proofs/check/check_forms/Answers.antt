use Rattle.checking_core.proofs.Checking.{answer_checked, form_checked}
use Rattle.checking_core.proofs.check.check_forms.Goals as goal

pub returns-in-Err-Fault : goal.returns-in-Err-Fault
returns-in-Err-Fault c =
    form_checked c.args.problem.now c.args.height c.args.end c.args.forms.now c.in-Err-Fault.field-0 c.in-Err-Fault.fault c.in-Err-Fault.ensures.due c.in-Err-Fault.field-0-is

pub returns-in-Ok : goal.returns-in-Ok
returns-in-Ok c =
    answer_checked c.args.problem.now c.args.height c.args.end c.args.forms.now c.in-Ok.answer c.check.result c.checked_of.result c.in-Ok.ensures.due c.check.ensures.verdict c.checked_of.ensures
