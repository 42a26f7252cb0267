use Rattle.semgus_app.proofs.Tasks.{one_task}
use Rattle.semgus_app.proofs.laws.one_task.Goals as goal

pub returns : goal.returns
returns c = one_task
