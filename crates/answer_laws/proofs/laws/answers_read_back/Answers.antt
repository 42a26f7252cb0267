use Rattle.answer_laws.proofs.Whole.{answers_read_back}
use Rattle.answer_laws.proofs.laws.answers_read_back.Goals as goal

pub returns : goal.returns
returns c = answers_read_back
