use Rattle.std.proofs.Common.{◌≡◌, length, take, All, Contains}
use Rattle.grammar_core.specs.Marks.{AreMarks, Grows, IsMarked}
use Rattle.grammar_core.proofs.marks.Marks.mark_all.Given as goal

abbrev pub invariant-loop-arg : goal.invariant-loop-arg
invariant-loop-arg l = record {
  fine : AreMarks l.self;
  size : length l.self.flags ≡ length l.fn.self.flags;
  marked : All (IsMarked l.self.flags) (take l.arg-index l.args);
  grows : Grows (Contains l.args) l.fn.self l.self;
}
