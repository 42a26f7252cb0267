use Rattle.eval_core.specs.Lenses.{hands_on}
use Rattle.marks_core.proofs.Tabled.{one_more}
use Rattle.marks_core.proofs.places.places_of.Goals as goal

pub loop-i-preserved : goal.loop-i-preserved
loop-i-preserved c = one_more (hands_on c.args.problem.now c.args.con) c.loop-i.places c.push.new.self c.loop-i.i c.hands_on.result c.loop-i.invariant c.hands_on.ensures c.in_ok-push.ensures.ok
