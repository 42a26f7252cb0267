use Rattle.term_core.proofs.Marking.{Marked}
use Rattle.term_core.proofs.node.subterm_marks.Given as goal

abbrev pub invariant-loop-k : goal.invariant-loop-k
invariant-loop-k l = Marked l.nodes l.fn.id l.k l.marks.items
