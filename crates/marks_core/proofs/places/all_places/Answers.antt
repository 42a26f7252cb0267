use Rattle.marks_core.specs.Tables.{places_at}
use Rattle.marks_core.proofs.Tabled.{one_more}
use Rattle.marks_core.proofs.places.all_places.Goals as goal

pub loop-number-preserved : goal.loop-number-preserved
loop-number-preserved c = one_more (places_at c.args.problem.now) c.loop-number.lists c.push.new.self c.loop-number.number c.in_ok-places_of.field-0 c.loop-number.invariant c.in_ok-places_of.ensures c.in_ok-push.ensures.ok
