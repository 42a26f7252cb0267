use Rattle.std.proofs.Common.{arith}
use Rattle.checking_core.proofs.Checking.{fault_checked}
use Rattle.checking_core.proofs.check.check_short.Goals as goal

pub returns-in-Err : goal.returns-in-Err
returns-in-Err c = λ bytes stands count short.
    (let found = rw c.in-Err.is at c.in_ok-forms.ensures in
    fault_checked c.args.problem.now c.args.height bytes c.in-Err.fault.place c.in-Err.fault.reason c.refusal.result short (found bytes stands (omega (arith, short))) c.refusal.ensures)
