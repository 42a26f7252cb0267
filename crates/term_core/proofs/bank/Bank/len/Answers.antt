use Rattle.std.proofs.Common.{arith, ap, length}
use Rattle.term_core.proofs.Trees.{length-trees_of}
use Rattle.term_core.proofs.bank.Bank.len.Goals as goal

pub returns-clause-count : goal.returns-clause-count
returns-clause-count c = omega (arith, length-trees_of c.self.inside.nodes, ap length c.self.view_is)
