use Rattle.std.proofs.Common.{[], arith}
use Rattle.text_tests.proofs.judging.text_of_file.Goals as goal

pub feed-requires : goal.feed-requires
feed-requires c = let room = c.requires in record { bytes = []; judging = c.new-judge.ensures; room = omega (arith, room) }

pub text_at_end-requires : goal.text_at_end-requires
text_at_end-requires c = let room = c.requires in record { bytes = c.args.file.now; judging = c.in-Ok.ensures [] c.new-judge.ensures; room = omega (arith, room) }
