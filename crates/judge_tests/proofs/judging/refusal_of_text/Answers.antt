use Rattle.std.proofs.Common.{[], arith}
use Rattle.judge_tests.proofs.judging.refusal_of_text.Goals as goal

pub feed-requires : goal.feed-requires
feed-requires c = let room = c.requires in record { bytes = []; judging = c.new-judge.ensures; room = omega (arith, room) }

pub refusal_at_end-requires : goal.refusal_at_end-requires
refusal_at_end-requires c = let room = c.requires in record { bytes = c.args.text.now; judging = c.in-Ok.ensures [] c.new-judge.ensures; room = omega (arith, room) }
