use Rattle.answer_laws.proofs.Valid.{valid_answers_read_back}
use Rattle.answer_laws.proofs.laws.valid_answers_read_back.Goals as goal

pub returns : goal.returns
returns c = valid_answers_read_back
