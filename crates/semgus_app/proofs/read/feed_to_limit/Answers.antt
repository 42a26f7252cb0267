use Rattle.std.proofs.Common.{◌≡◌, ◌+◌, min, length, take, drop, length-append, length-take, length-drop, ◌∙◌, arith}
use Rattle.semgus_app.proofs.Reading.{feeding_more, fed_end}
use Rattle.semgus_app.proofs.read.feed_to_limit.Goals as goal

pub loop-count-preserved : goal.loop-count-preserved
loop-count-preserved g c =
    let l = c.loop-count in
    let e = c.in_ok-size.ensures in
    let buffer = c.feed_piece.new.buffer in
    let rest = drop c.min-room.result l.chunk in
    let room : length buffer ≡ length (take c.min-room.result l.chunk) = c.feed_piece.auto.buffer in
    let part : length (take c.min-room.result l.chunk) ≡ min c.min-room.result (length l.chunk) = length-take c.min-room.result l.chunk in
    record {
      size = omega (arith, length-append buffer rest, room, part, length-drop c.min-room.result l.chunk, l.invariant.size);
      within = omega (arith, part, e.within, c.min-room.ensures, l.invariant.within, c.loop-count-test.true);
      feeding = feeding_more g.T.Feed.was_fed _ _ _ l.count c.in_ok-size.size l.fed c.feed_piece.new.fed l.invariant.feeding (e.more l.invariant.feeding.bytes l.invariant.feeding.all);
      faultless = e.faultless (λ same. cc) ∙ l.invariant.faultless;
      open_faults = e.open_faults ∙ l.invariant.open_faults;
      taken = omega (arith, e.taken, l.invariant.taken);
      held = e.held ∙ l.invariant.held;
      steady = e.steady ∙ l.invariant.steady;
    }

pub returns-then-size-eq0-clause-all : goal.returns-then-size-eq0-clause-all
returns-then-size-eq0-clause-all g c =
    let h = c.loop-count.invariant.feeding in
    let none = c.if-size-eq0.true in
    fed_end g.T.Feed.was_fed _ _ _ c.loop-count.count (c.args.limit + 1) c.in_ok-size.size c.loop-count.fed c.feed_piece.new.fed h c.loop-count.invariant.within (omega (arith, none))
    (c.in_ok-size.ensures.more h.bytes h.all)
