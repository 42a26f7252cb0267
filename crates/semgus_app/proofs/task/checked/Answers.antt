use Rattle.std.proofs.Common.{refl}
use Rattle.semgus_app.specs.Files.{as_second}
use Rattle.checking_core.specs.Reading.{IsReading}
use Rattle.semgus_app.proofs.Outputs.{can_end, closed_output, failed_output, double_output}
use Rattle.semgus_app.proofs.task.checked.Goals as goal

pub due_for_answer-requires : goal.due_for_answer-requires
due_for_answer-requires g c =
    let read = rw c.in-Read.is at c.in_ok-file.ensures.contents in
    can_end _ _ c.in-Read.file read.2

pub returns-in_ok-due_for_answer-in-Read-clause-output : goal.returns-in_ok-due_for_answer-in-Read-clause-output
returns-in_ok-due_for_answer-in-Read-clause-output g c = λ file first judged read.
    (let d = c.in_ok-due_for_answer-in-Read in
    double_output _ _ _ _ _ _ _ _ _ first c.in-Read.file _ refl read (rw c.in-Read.is at c.in_ok-file.ensures.contents) (λ bytes reading. d.ensures file c.args.name.now first bytes judged reading))

pub returns-in_ok-cannot_open-in-Closed-clause-output : goal.returns-in_ok-cannot_open-in-Closed-clause-output
returns-in_ok-cannot_open-in-Closed-clause-output g c = λ file first judged read.
    (let d = c.in_ok-cannot_open-in-Closed in
    closed_output _ _ _ _ _ _ _ _ _ IsReading _ (as_second first refl (record { read = read; problem = c.args.problem.now; judged = judged }))
    (rw c.in-Closed.is at c.in_ok-file.ensures.contents) d.ensures.0 d.ensures.1)

pub returns-in_ok-read_fault-in-Failed-clause-output : goal.returns-in_ok-read_fault-in-Failed-clause-output
returns-in_ok-read_fault-in-Failed-clause-output g c = λ file first judged read.
    (let d = c.in_ok-read_fault-in-Failed in
    failed_output _ _ _ _ _ _ _ _ _ IsReading _ (as_second first refl (record { read = read; problem = c.args.problem.now; judged = judged }))
    (rw c.in-Failed.is at c.in_ok-file.ensures.contents) d.ensures.0 d.ensures.1)
