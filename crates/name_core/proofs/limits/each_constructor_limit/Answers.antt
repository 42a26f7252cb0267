use Rattle.sexpr_core.specs.Access.{parts_of}
use Rattle.name_core.specs.Limits.{constructor_limits}
use Rattle.name_core.proofs.Loops.{parts_here, parts_next}
use Rattle.name_core.proofs.limits.each_constructor_limit.Goals as goal

pub returns-in-Err : goal.returns-in-Err
returns-in-Err c =
    parts_here constructor_limits parts_of c.loop-group.next c.args.groups.now c.loop-group.group-index c.group-item.result c.parts_of.result.now _ c.in-Err.fault
    c.loop-group-test.true c.group-item.is c.parts_of.ensures c.loop-group.invariant c.in-Err.ensures.fault

pub loop-group-preserved : goal.loop-group-preserved
loop-group-preserved c =
    parts_next constructor_limits parts_of c.loop-group.next c.in-Ok.after c.args.groups.now c.loop-group.group-index c.group-item.result c.parts_of.result.now _
    c.loop-group-test.true c.group-item.is c.parts_of.ensures c.in-Ok.ensures.next c.loop-group.invariant c.in-Ok.ensures.fault
