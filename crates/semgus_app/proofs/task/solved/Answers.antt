use Rattle.semgus_app.specs.Dues.{found, no_term}
use Rattle.semgus_app.proofs.Outputs.{due_at}
use Rattle.semgus_app.proofs.task.solved.Goals as goal

pub returns-in-Some : goal.returns-in-Some
returns-in-Some c = λ inputs file judged.
    (let answer = rw c.in-Some.is at c.in_ok-text.ensures in
    found file c.args.height c.args.size c.args.problem.now c.in-Some.text judged answer)

pub returns-in_ok-line-in-None : goal.returns-in_ok-line-in-None
returns-in_ok-line-in-None c = λ inputs file judged.
    (let answer = rw c.in-None.is at c.in_ok-text.ensures in
    due_at inputs _ _ _ _ _ c.in_ok-line-in-None.ensures.0 c.in_ok-line-in-None.ensures.1
    (no_term file c.args.height c.args.size c.args.problem.now judged answer))
