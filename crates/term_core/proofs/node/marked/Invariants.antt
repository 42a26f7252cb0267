use Rattle.std.proofs.Common.{◌≡◌, ◌++◌, drop}
use Rattle.term_core.specs.Marks.{marked_from}
use Rattle.term_core.proofs.node.marked.Given as goal

abbrev pub invariant-loop-place : goal.invariant-loop-place
invariant-loop-place l = l.ids.items ++ marked_from l.place (drop l.place l.marks) ≡ marked_from 0 l.marks
