use Rattle.std.proofs.Common.{◌≡◌, drop}
use Rattle.term_core.specs.Marks.{marked_with}
use Rattle.term_core.proofs.node.mark_all.Given as goal

abbrev pub invariant-loop-id : goal.invariant-loop-id
invariant-loop-id l = marked_with (drop l.id-index l.ids) l.marks ≡ marked_with l.ids l.fn.marks
