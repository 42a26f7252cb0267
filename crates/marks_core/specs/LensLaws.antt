-- The laws of the lens of marks.
use Rattle.std.proofs.Common.{sym, subst}
use Rattle.sig_core.specs.Signatures.{Declarations}
use Rattle.lens_core.specs.Lenses.{IsCongruent, IsSameness}
use Rattle.eval_core.specs.Alikeness.{AreAlike}
use Rattle.eval_core.specs.Lenses.{hands_on}
use Rattle.eval_core.proofs.Lawful.{alike_is_congruent, alike_is_sameness}
use Rattle.marks_core.specs.Marking.{Marking, IsLensFor}

pub marks_sameness : (l : Marking) (sig : Declarations) → IsLensFor l sig → IsSameness sig (AreAlike l.problem l.height)
marks_sameness l sig is = subst (λ s. IsSameness s (AreAlike l.problem l.height)) (sym is.signature) (alike_is_sameness l.problem l.height)

pub marks_congruent : (l : Marking) (sig : Declarations) → IsLensFor l sig → IsCongruent sig (hands_on l.problem) (AreAlike l.problem l.height)
marks_congruent l sig is = subst (λ s. IsCongruent s (hands_on l.problem) (AreAlike l.problem l.height)) (sym is.signature) (alike_is_congruent l.problem l.height is.flows)
