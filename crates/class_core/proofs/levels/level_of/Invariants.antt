use Rattle.std.proofs.Common.{◌≡◌, ◌<◌, ◌≤◌, [], length, get_or}
use Rattle.grammar_core.specs.declared.ids.NtId.{NtId}
use Rattle.grammar_core.specs.Grammars.{Reaches, start}
use Rattle.class_core.specs.Choices.{LooksAtFirst}
use Rattle.class_core.specs.Leaders.{IsLeader}
use Rattle.class_core.specs.Standing.{KnowsAt}
use Rattle.size_core.specs.Lists.{IsListOf}
use Rattle.lens_core.specs.Lenses.{Stays}
use Rattle.term_core.specs.Banks.{Keeps}
use Rattle.class_core.proofs.levels.level_of.Given as goal

abbrev pub invariant-loop-n : goal.invariant-loop-n
invariant-loop-n g l = record {
  kept : Keeps l.fn.bank l.bank;
  count : length l.level ≡ l.n;
  lists : (m : NtId) → m.0 < l.n → Reaches l.grammar start m → IsListOf l.bank (IsLeader l.grammar (g.L.Lens.same_mark l.fn.lens) m) l.size (get_or l.level m.0 []);
  done : (m : NtId) → m.0 < l.n → KnowsAt l.grammar (g.L.Lens.has_mark l.fn.lens) (g.L.Lens.same_mark l.fn.lens) g.L.Mark.Ord.cmp m l.size l.marks;
  left : (m : NtId) → l.n ≤ m.0 → m.0 < length l.grammar → KnowsAt l.grammar (g.L.Lens.has_mark l.fn.lens) (g.L.Lens.same_mark l.fn.lens) g.L.Mark.Ord.cmp m (length l.leaders) l.marks;
  looks : LooksAtFirst l.grammar (g.L.Lens.same_mark l.fn.lens) (g.L.Lens.is_plain l.fn.lens) l.size l.n (g.L.Lens.looked l.fn.lens) (g.L.Lens.looked l.lens);
  fits : g.L.Lens.fits l.lens l.bank;
  stays : Stays (g.L.Lens.has_mark l.fn.lens) (g.L.Lens.has_mark l.lens) (g.L.Lens.same_mark l.fn.lens) (g.L.Lens.same_mark l.lens) (g.L.Lens.is_for l.fn.lens) (g.L.Lens.is_for l.lens) (g.L.Lens.is_plain l.fn.lens) (g.L.Lens.is_plain l.lens);
}
