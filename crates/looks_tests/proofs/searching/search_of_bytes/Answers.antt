use Rattle.std.proofs.Common.{[], arith}
use Rattle.looks_tests.proofs.searching.search_of_bytes.Goals as goal

pub feed-requires : goal.feed-requires
feed-requires c = let room = c.requires.short in record { bytes = []; judging = c.new-judge.ensures; room = omega (arith, room) }

pub search_at_end-requires-clause-room : goal.search_at_end-requires-clause-room
search_at_end-requires-clause-room c = let room = c.requires.short in record { bytes = c.args.text.now; judging = c.in-Ok.ensures [] c.new-judge.ensures; room = omega (arith, room) }
