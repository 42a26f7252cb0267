use Rattle.std.proofs.Common.{◌+◌, ◌*◌, map, sum}
use Rattle.term_core.specs.Banks.{tree_of}
use Rattle.term_core.specs.Terms.{size}
use Rattle.grammar_core.proofs.by_sets.+member.Given as goal

abbrev pub decreases-set_of : goal.decreases-set_of
decreases-set_of l = 2 * size (tree_of l.bank.now l.id)

abbrev pub decreases-set_over : goal.decreases-set_over
decreases-set_over l = 2 * sum (map size (map (tree_of l.bank.now) l.kids.now)) + 1
