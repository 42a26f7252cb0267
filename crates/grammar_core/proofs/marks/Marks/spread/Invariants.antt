use Rattle.std.proofs.Common.{◌-◌, ◌≡◌, length}
use Rattle.grammar_core.specs.Marks.{AreMarks, IsClosedBefore, KeepsMarks, MarksReached}
use Rattle.grammar_core.proofs.marks.Marks.spread.Given as goal

abbrev pub invariant-loop-place : goal.invariant-loop-place
invariant-loop-place l = record {
  fine : AreMarks l.self;
  size : length l.self.flags ≡ length l.fn.self.flags;
  kept : KeepsMarks l.fn.self.flags l.self.flags;
  reached : MarksReached l.grammar l.fn.self.flags → MarksReached l.grammar l.self.flags;
  closed : IsClosedBefore l.grammar l.self l.place;
}

abbrev pub decreases-loop-place : goal.decreases-loop-place
decreases-loop-place l = length l.self.flags - l.place
