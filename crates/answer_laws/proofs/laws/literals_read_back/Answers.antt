use Rattle.answer_laws.proofs.Spellable.{literals_read_back}
use Rattle.answer_laws.proofs.laws.literals_read_back.Goals as goal

pub returns : goal.returns
returns c = literals_read_back
