use Rattle.sig_core.specs.Names.{is_reserved}
use Rattle.sig_core.proofs.text.is_reserved.Goals as goal

pub returns : goal.returns
unfolding is_reserved
returns c = c.contains.ensures.value
