use Rattle.class_core.specs.Standing.{lens_of}
use Rattle.solve_core.specs.Searching.{AreGrown, AreSearched}
use Rattle.solve_core.specs.Verifying.{VerifiesIn}
use Rattle.solve_core.proofs.by_size.find.Given as goal

abbrev pub invariant-loop-k : goal.invariant-loop-k
invariant-loop-k g l = record {
  grown : AreGrown g.L.Lens g.L.Mark.Ord.cmp l.problem l.bank l.classes l.lists;
  searched : AreSearched g.L.Lens l.problem l.fn.verifier.height (lens_of l.fn.classes) l.classes l.k;
  verifies : VerifiesIn l.verifier l.problem l.fn.verifier.height l.bank;
}
