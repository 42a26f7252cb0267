use Rattle.answer_laws.proofs.Terms.{terms_read_back}
use Rattle.answer_laws.proofs.laws.terms_read_back.Goals as goal

pub returns : goal.returns
returns c = terms_read_back
