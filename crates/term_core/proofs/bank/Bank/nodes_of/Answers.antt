use Rattle.term_core.proofs.NodeReads.{live_read}
use Rattle.term_core.proofs.bank.Bank.nodes_of.Goals as goal

pub subterms-requires-clause-live : goal.subterms-requires-clause-live
subterms-requires-clause-live c = live_read _ _ _ c.self.view_is c.as_slice.ensures _ c.requires
