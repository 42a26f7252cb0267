use Rattle.std.proofs.Common.{◌+◌, ◌++◌, length, refl}
use Rattle.elab_core.proofs.Judged.{added_small, fed, fed_short}
use Rattle.elab_core.proofs.judge.Judge.feed.Goals as goal

pub judge_all-requires : goal.judge_all-requires
judge_all-requires c =
    added_small c.read.new.reader (c.requires.bytes ++ c.args.piece.now) c.requires.judging.given c.args.self.now.forms c.read.new.forms c.requires.judging.judged
    (fed_short c.requires.bytes c.args.piece.now c.requires.room) (c.in_ok-read.ensures c.requires.bytes c.requires.judging.given c.requires.judging.reads)

pub returns : goal.returns
returns c = λ bytes j.
    fed c.args.self.now (record { alloc = c.args.self.now.alloc; reader = c.read.new.reader; forms = c.new.result; elaborator = c.judge_all.new.elaborator; count = c.args.self.now.count + length c.args.piece.now })
    bytes c.args.piece.now c.read.new.forms j (c.in_ok-read.ensures bytes) c.in_ok-judge_all.ensures c.new.ensures refl
