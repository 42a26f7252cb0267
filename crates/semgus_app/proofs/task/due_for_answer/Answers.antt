use Rattle.semgus_app.specs.Dues.{valid, invalid, answer_refused}
use Rattle.semgus_app.proofs.Outputs.{due_at}
use Rattle.semgus_app.proofs.task.due_for_answer.Goals as goal

pub returns-in_ok-line-in-Valid : goal.returns-in_ok-line-in-Valid
returns-in_ok-line-in-Valid c = λ file name first bytes judged reading.
    due_at _ _ _ _ _ _ c.in_ok-line-in-Valid.ensures.0 c.in_ok-line-in-Valid.ensures.1 (valid file name _ c.args.problem.now judged ((rw c.in-Valid.is at c.in_ok-check_answer.ensures) bytes reading))

pub returns-in_ok-invalid-in-Invalid : goal.returns-in_ok-invalid-in-Invalid
returns-in_ok-invalid-in-Invalid c = λ file name first bytes judged reading.
    due_at _ _ _ _ _ _ c.in_ok-invalid-in-Invalid.ensures.0 c.in_ok-invalid-in-Invalid.ensures.1 (invalid file name _ c.args.problem.now c.in-Invalid.flaw judged ((rw c.in-Invalid.is at c.in_ok-check_answer.ensures) bytes reading))

pub returns-in_ok-refusal-in-Refused : goal.returns-in_ok-refusal-in-Refused
returns-in_ok-refusal-in-Refused c = λ file name first bytes judged reading.
    due_at _ _ _ _ _ _ c.in_ok-refusal-in-Refused.ensures.0 c.in_ok-refusal-in-Refused.ensures.1 (answer_refused file name _ c.args.problem.now c.in-Refused.fault judged ((rw c.in-Refused.is at c.in_ok-check_answer.ensures) bytes reading))
