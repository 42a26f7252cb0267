use Rattle.std.proofs.Common.{refl}
use Rattle.semgus_app.proofs.Outputs.{has_problem_file, refused_output}
use Rattle.semgus_app.proofs.task.output_after.Goals as goal

pub returns-in_ok-output_for-in-Ok-clause-output : goal.returns-in_ok-output_for-in-Ok-clause-output
returns-in_ok-output_for-in-Ok-clause-output g c = λ bytes fed read.
    (let judged = rw c.in-Ok.is at c.in_ok-problem.ensures in
    c.in_ok-output_for-in-Ok.ensures.output bytes (judged bytes fed) read)

pub returns-in_ok-refusal-in-Err-clause-output : goal.returns-in_ok-refusal-in-Err-clause-output
returns-in_ok-refusal-in-Err-clause-output g c = λ bytes fed read.
    (let judged = rw c.in-Err.is at c.in_ok-problem.ensures in
    let d = c.in_ok-refusal-in-Err in
    let named = has_problem_file c.args.command.now in
    refused_output _ _ _ _ _ _ _ _ _ bytes named.0 c.in-Err.fault named.1 (judged bytes fed) read refl refl d.ensures.0 d.ensures.1)
