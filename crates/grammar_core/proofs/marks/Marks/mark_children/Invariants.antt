use Rattle.std.proofs.Common.{◌≡◌, length, take, All}
use Rattle.grammar_core.specs.Marks.{AreMarks, Grows, HasChild, IsMarked}
use Rattle.grammar_core.proofs.marks.Marks.mark_children.Given as goal

abbrev pub invariant-loop-production : goal.invariant-loop-production
invariant-loop-production l = record {
  fine : AreMarks l.self;
  size : length l.self.flags ≡ length l.fn.self.flags;
  marked : All (λ p. All (IsMarked l.self.flags) p.args) (take l.production-index l.productions);
  grows : Grows (HasChild l.productions) l.fn.self l.self;
}
