use Rattle.answer_core.proofs.OneVerdict.{one_verdict}
use Rattle.answer_core.proofs.laws.one_verdict.Goals as goal

pub returns : goal.returns
returns c = one_verdict
