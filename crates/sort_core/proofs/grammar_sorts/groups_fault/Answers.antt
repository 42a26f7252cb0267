use Rattle.std.proofs.Common.{arith}
use Rattle.sort_core.specs.Sorts.{group_faults}
use Rattle.sort_core.proofs.Steps.{pair_clean, pair_faults}
use Rattle.sort_core.proofs.grammar_sorts.groups_fault.Goals as goal

pub returns-in-Some : goal.returns-in-Some
returns-in-Some c =
    pair_faults (group_faults c.args.signature.now c.args.pairs.now) c.args.pairs.now c.args.groups.now c.loop-k.k c.index-pairs-k.result c.index-groups-k.result _ _ c.in-Some.fault
    c.loop-k-test.true c.index-pairs-k.is (omega arith) c.index-groups-k.is c.loop-k.invariant c.group_fault.ensures c.in-Some.is

pub loop-k-preserved : goal.loop-k-preserved
loop-k-preserved c =
    pair_clean (group_faults c.args.signature.now c.args.pairs.now) c.args.pairs.now c.args.groups.now c.loop-k.k c.index-pairs-k.result c.index-groups-k.result _ _
    c.loop-k-test.true c.index-pairs-k.is (omega arith) c.index-groups-k.is c.loop-k.invariant c.group_fault.ensures c.in-None.is
