use Rattle.run_laws.proofs.FoundAnswers.{found_answers_are_valid}
use Rattle.run_laws.proofs.laws.found_answers_are_valid.Goals as goal

pub returns : goal.returns
returns c = found_answers_are_valid
