use Rattle.std.proofs.Common.{refl}
use Rattle.semgus_app.specs.Dues.{shown}
use Rattle.semgus_app.proofs.Outputs.{due_at}
use Rattle.semgus_app.proofs.task.shown.Goals as goal

pub returns : goal.returns
returns c = λ inputs file judged. due_at inputs _ _ _ _ _ refl c.in_ok-text.ensures (shown file c.args.problem.now judged)
