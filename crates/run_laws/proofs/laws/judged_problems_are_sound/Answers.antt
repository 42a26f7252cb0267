use Rattle.run_laws.proofs.SoundProblems.{judged_problems_are_sound}
use Rattle.run_laws.proofs.laws.judged_problems_are_sound.Goals as goal

pub returns : goal.returns
returns c = judged_problems_are_sound
