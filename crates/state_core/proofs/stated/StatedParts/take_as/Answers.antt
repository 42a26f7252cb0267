use Rattle.std.proofs.Common.{sym}
use Rattle.state_core.proofs.Outcomes.{due, misshapen, taken}
use Rattle.state_core.proofs.stated.StatedParts.take_as.Goals as goal

pub returns-in-Some-clause-err : goal.returns-in-Some-clause-err
returns-in-Some-clause-err c = misshapen c.args.self.now c.args.head c.args.form.now c.in-Some.fault c.requires.judged (sym c.in-Some.ensures)

pub returns-in-Ok-clause-ok : goal.returns-in-Ok-clause-ok
returns-in-Ok-clause-ok c = taken c.args.self.now c.args.head c.args.form.now c.take_shaped.new.self c.requires.judged (sym c.in-None.ensures) c.in-Ok.ensures.ok

pub returns-in-Err-clause-err : goal.returns-in-Err-clause-err
returns-in-Err-clause-err c = due c.args.self.now c.args.head c.args.form.now c.in-Err.error c.requires.judged (sym c.in-None.ensures) c.in-Err.ensures.err
