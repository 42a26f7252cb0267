use Rattle.answer_laws.proofs.Numerals.{numerals_read_back}
use Rattle.answer_laws.proofs.laws.numerals_read_back.Goals as goal

pub returns : goal.returns
returns c = numerals_read_back
