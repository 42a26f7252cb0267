use Rattle.solve_core.proofs.Sound.{sound_is_fit}
use Rattle.solve_core.proofs.laws.sound_is_fit.Goals as goal

pub returns : goal.returns
returns c = sound_is_fit
