use Rattle.std.proofs.Common.{◌≡◌, ◌+◌}
use Rattle.class_core.specs.Standing.{ClassesStand, ListsStand, grown_of, lens_of}
use Rattle.class_tests.proofs.growing.classes_to.Given as goal

abbrev pub invariant-loop-size : goal.invariant-loop-size
invariant-loop-size g l = record {
  grown : grown_of l.classes + 1 ≡ l.size;
  signature : g.L.Lens.is_for (lens_of l.classes) l.signature;
  bank : g.L.Lens.fits (lens_of l.classes) l.bank;
  stands : ClassesStand g.L.Lens g.L.Mark.Ord.cmp l.grammar l.bank l.classes;
  lists : ListsStand l.grammar l.bank (g.L.Lens.is_plain (lens_of l.classes)) l.lists (grown_of l.classes);
}
