use Rattle.std.proofs.Common.{arith}
use Rattle.name_core.specs.Names.{group_names, names_in}
use Rattle.name_core.proofs.Loops.{beside_here}
use Rattle.name_core.proofs.grammar_names.groups_name.Goals as goal

pub returns-in-Some : goal.returns-in-Some
returns-in-Some c =
    beside_here (group_names c.args.signature.now (names_in c.args.nonterminals.now)) c.args.nonterminals.now c.args.groups.now c.loop-k.k c.index-nonterminals-k.result c.index-groups-k.result _ c.in-Some.fault
    c.loop-k-test.true c.index-nonterminals-k.is (omega arith) c.index-groups-k.is c.loop-k.invariant c.in-Some.ensures
