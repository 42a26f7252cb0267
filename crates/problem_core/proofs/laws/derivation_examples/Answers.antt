use Rattle.problem_core.proofs.Examples.{two_existentials, least_3, two_outputs}
use Rattle.problem_core.proofs.laws.derivation_examples.Goals as goal

pub returns : goal.returns
returns c = record { instance = two_existentials; least = least_3; outputs = two_outputs }
