use Rattle.sexpr_core.proofs.Respelled.{read_spellable, spelled_again}
use Rattle.sexpr_core.proofs.laws.forms_spelled_again.Goals as goal

pub returns-clause-read : goal.returns-clause-read
returns-clause-read c = read_spellable

pub returns-clause-again : goal.returns-clause-again
returns-clause-again c = spelled_again
