use Rattle.expr_core.proofs.Naming.{found_by_name, name_of_found}
use Rattle.expr_core.proofs.laws.one_name.Goals as goal

pub returns-clause-found : goal.returns-clause-found
returns-clause-found c = found_by_name

pub returns-clause-name : goal.returns-clause-name
returns-clause-name c = name_of_found
