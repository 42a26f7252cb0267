use Rattle.std.proofs.Common.{arith, map}
use Rattle.term_core.specs.Banks.{tree_of}
use Rattle.term_core.proofs.Order.{size-node}
use Rattle.example_terms.proofs.nodes.intern.Goals as goal

pub intern-requires-clause-small : goal.intern-requires-clause-small
intern-requires-clause-small c =
    omega (arith, size-node (record { 0 = c.args.con }) (map (tree_of c.args.bank.now) c.args.kids.now), c.in-Some.ensures.size, c.in-Some.ensures.small)
