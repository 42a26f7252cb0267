use Rattle.solved_laws.proofs.Derived.{solved_answers_read_back}
use Rattle.solved_laws.proofs.laws.solved_answers_read_back.Goals as goal

pub returns : goal.returns
returns c = solved_answers_read_back
