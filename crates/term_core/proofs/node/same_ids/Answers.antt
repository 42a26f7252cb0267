use Rattle.std.proofs.lemmas.Slice.Eq.{slice_eq-Decides}
use Rattle.term_core.proofs.IdEq.{id_eq-Decides}
use Rattle.term_core.proofs.node.same_ids.Goals as goal

pub returns : goal.returns
returns c = slice_eq-Decides id_eq-Decides _ _ _ c.eq.ensures
