use Rattle.std.proofs.Common.{take, All}
use Rattle.term_core.specs.declared.ids.TermId.{TermId}
use Rattle.term_core.specs.Banks.{tree_of}
use Rattle.problem_core.specs.Problems.{Solves}
use Rattle.solve_core.specs.Verifying.{VerifiesIn}
use Rattle.solve_core.proofs.verifier.Verifier.first_of.Given as goal

abbrev pub invariant-loop-id : goal.invariant-loop-id
invariant-loop-id l = record {
  none : All (λ (id : TermId). ¬ Solves l.fn.self.problem l.fn.self.height (tree_of l.bank id)) (take l.id-index l.ids);
  verifies : VerifiesIn l.self l.fn.self.problem l.fn.self.height l.bank;
}
