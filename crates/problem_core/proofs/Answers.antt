-- A problem has one answer.
use Rattle.std.proofs.Common.{◌≡◌, ℕ, Option, Some, None, refl, ap, inl, inr}
use Rattle.term_core.specs.declared.tree.Tree.{Tree}
use Rattle.problem_core.specs.Problems.{Parts, IsAnswer, IsFirst}
use Rattle.term_core.proofs.Order.{trichotomy}

one_first : (problem : Parts) (h n : ℕ) (t u : Tree) → IsFirst problem h n t → IsFirst problem h n u → t ≡ u
one_first problem h n t u a b = elim (trichotomy t u) [
  | inl less ↦ absurd (b.first t a.solution less)
  | inr c ↦ elim c [ inl same ↦ same | inr less ↦ absurd (a.first u b.solution less) ]
]

pub one_answer : (problem : Parts) (h n : ℕ) (a b : Option Tree) → IsAnswer problem h n a → IsAnswer problem h n b → a ≡ b
one_answer problem h n None None p q = refl
one_answer problem h n None (Some u) p q = absurd (p u q.solution)
one_answer problem h n (Some t) None p q = absurd (q t p.solution)
one_answer problem h n (Some t) (Some u) p q = ap Some (one_first problem h n t u p q)
