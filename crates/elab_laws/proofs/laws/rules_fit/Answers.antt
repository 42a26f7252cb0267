use Rattle.elab_laws.proofs.FlowLaws.{rules_fit}
use Rattle.elab_laws.proofs.laws.rules_fit.Goals as goal

pub returns : goal.returns
returns c = rules_fit
