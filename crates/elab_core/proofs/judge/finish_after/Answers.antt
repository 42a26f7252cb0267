use Rattle.elab_core.proofs.Judged.{rest_judged, rest_refused}
use Rattle.elab_core.proofs.judge.finish_after.Goals as goal

pub returns-in-Err : goal.returns-in-Err
returns-in-Err c = λ outcome e. rest_refused c.args.read c.args.forms.now c.args.end outcome c.judge_rest.new.elaborator c.in-Err.error (c.in-Err.ensures outcome e)

pub returns-in-Ok : goal.returns-in-Ok
returns-in-Ok c = λ outcome e. rest_judged c.args.read c.args.forms.now c.args.end outcome c.judge_rest.new.elaborator tt c.finish.result (c.in-Ok.ensures outcome e) c.finish.ensures
