use Rattle.std.proofs.Common.{arith}
use Rattle.checking_core.proofs.Checking.{long_checked}
use Rattle.checking_core.proofs.check.check_answer.Goals as goal

pub returns-then-file-gt-ANSWER_LIMIT : goal.returns-then-file-gt-ANSWER_LIMIT
returns-then-file-gt-ANSWER_LIMIT c = λ bytes r.
    (let count = r.count in
    long_checked c.args.problem.now c.args.height bytes c.too_long.result (omega (arith, count, c.if-file-gt-ANSWER_LIMIT.true)) c.too_long.ensures)

pub check_short-requires : goal.check_short-requires
check_short-requires c = let r = c.requires in (r.0, r.1.reads, r.2)
