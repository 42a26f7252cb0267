use Rattle.term_core.proofs.Order.{term_cmp-total, same_term, term_cmp-node, size-node}
use Rattle.term_core.proofs.Parts.{child_first}
use Rattle.term_core.proofs.laws.order_laws.Goals as goal

pub returns-clause-total : goal.returns-clause-total
returns-clause-total c = term_cmp-total

pub returns-clause-same : goal.returns-clause-same
returns-clause-same c = same_term

pub returns-clause-parts : goal.returns-clause-parts
returns-clause-parts c = term_cmp-node

pub returns-clause-size : goal.returns-clause-size
returns-clause-size c = size-node

pub returns-clause-children : goal.returns-clause-children
returns-clause-children c = child_first
