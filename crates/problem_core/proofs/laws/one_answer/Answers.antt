use Rattle.problem_core.proofs.Answers as law
use Rattle.problem_core.proofs.laws.one_answer.Goals as goal

pub returns : goal.returns
returns c = law.one_answer
