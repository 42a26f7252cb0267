use Rattle.std.proofs.Common.{refl}
use Rattle.elab_core.specs.Feeding.{IsJudging}
use Rattle.semgus_app.specs.Files.{as_problem}
use Rattle.semgus_app.proofs.Outputs.{asked, file_read, output_from, closed_output, failed_output}
use Rattle.semgus_app.proofs.task.output_of.Goals as goal

pub output_after-requires-clause-room : goal.output_after-requires-clause-room
output_after-requires-clause-room g c =
    let read = rw c.in-Read.is at c.in_ok-judge.ensures.contents in
    asked _ _ c.in-Read.judge read.2

pub returns-in_ok-output_after-in-Read-clause-output : goal.returns-in_ok-output_after-in-Read-clause-output
returns-in_ok-output_after-in-Read-clause-output g c =
    let d = c.in_ok-output_after-in-Read in
    let contents = rw c.in-Read.is at c.in_ok-judge.ensures.contents in
    let fed = contents.2 in
    output_from _ _ _ _ _ _ _ _ _ _ _ _ _ c.in_ok-judge.ensures.held c.in_ok-judge.ensures.steady contents.0 contents.1
    (d.ensures.output fed.bytes fed.all (file_read _ _ _ _ fed.bytes _ c.file-file.ensures c.in_ok-judge.ensures.held refl fed.read))

pub returns-in_ok-cannot_open-in-Closed-clause-output : goal.returns-in_ok-cannot_open-in-Closed-clause-output
returns-in_ok-cannot_open-in-Closed-clause-output g c =
    let d = c.in_ok-cannot_open-in-Closed in
    closed_output _ _ _ _ _ _ _ _ _ IsJudging _ (as_problem c.file-file.ensures) (rw c.in-Closed.is at c.in_ok-judge.ensures.contents) d.ensures.0 d.ensures.1

pub returns-in_ok-read_fault-in-Failed-clause-output : goal.returns-in_ok-read_fault-in-Failed-clause-output
returns-in_ok-read_fault-in-Failed-clause-output g c =
    let d = c.in_ok-read_fault-in-Failed in
    failed_output _ _ _ _ _ _ _ _ _ IsJudging _ (as_problem c.file-file.ensures) (rw c.in-Failed.is at c.in_ok-judge.ensures.contents) d.ensures.0 d.ensures.1
