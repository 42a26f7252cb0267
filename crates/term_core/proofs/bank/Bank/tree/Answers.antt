use Rattle.term_core.proofs.NodeReads.{live_read}
use Rattle.term_core.proofs.bank.Bank.tree.Goals as goal

pub tree-requires-clause-live : goal.tree-requires-clause-live
tree-requires-clause-live c = live_read _ _ _ c.self.view_is c.as_slice.ensures _ c.requires
