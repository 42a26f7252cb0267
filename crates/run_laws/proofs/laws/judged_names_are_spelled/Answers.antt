use Rattle.run_laws.proofs.SpelledNames.{judged_names_are_spelled}
use Rattle.run_laws.proofs.laws.judged_names_are_spelled.Goals as goal

pub returns : goal.returns
returns c = judged_names_are_spelled
