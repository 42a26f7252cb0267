use Rattle.sexpr_core.proofs.Small.{spelled_small}
use Rattle.spelling_tests.proofs.reading.forms_of.Goals as goal

pub returns-in-Ok-clause-small : goal.returns-in-Ok-clause-small
returns-in-Ok-clause-small c = spelled_small c.args.text.now c.read_into.new.into c.requires (rw c.in-Ok.is at c.read_into.ensures)
