use Rattle.step_laws.proofs.Valid.{IsValid-within}
use Rattle.step_laws.proofs.laws.valid_is_within.Goals as goal

pub returns : goal.returns
returns c = IsValid-within
