use Rattle.term_core.proofs.OneList.{one_list_of}
use Rattle.term_core.proofs.laws.list_laws.Goals as goal

pub returns : goal.returns
returns c = one_list_of
