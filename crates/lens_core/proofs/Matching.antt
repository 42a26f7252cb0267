-- Matched children, place by place.
use Rattle.std.proofs.Common.{◌≡◌, ℕ, zero, suc, ◌+◌, Bool, Some, List, [], ◌∷◌, length, slice_get, refl, ap, subst, arith}
use Rattle.std.specs.Bool.{MatchBool}
use Rattle.std.proofs.lemmas.Option.{same_Some, none-some}
use Rattle.term_core.specs.declared.tree.Tree.{Tree}
use Rattle.lens_core.specs.Lenses.{AreMatched}

module _ (same : Tree → Tree → Type 0) (plain : ℕ → Bool) where
  -- they are as many
  pub matched_length : (i : ℕ) (ts us : List Tree) → AreMatched same plain i ts us → length ts ≡ length us
  matched_length i [] [] all = refl
  matched_length i [] (u ∷ us) all = absurd all
  matched_length i (t ∷ ts) [] all = absurd all
  matched_length i (t ∷ ts) (u ∷ us) all = ap suc (matched_length (suc i) ts us all.1)

  -- those at a place are the same, or equal
  pub matched_at : (i : ℕ) (ts us : List Tree) → AreMatched same plain i ts us → (j : ℕ) (t u : Tree) → slice_get ts j ≡ Some t → slice_get us j ≡ Some u → MatchBool (plain (i + j)) (same t u) (t ≡ u)
  matched_at i [] us all j t u at at' = absurd (none-some t at)
  matched_at i (a ∷ ts) [] all j t u at at' = absurd all
  matched_at i (a ∷ ts) (b ∷ us) all zero t u at at' =
      let here : i ≡ i + 0 = omega arith in
      subst (λ k. MatchBool (plain k) (same t u) (t ≡ u)) here (subst (λ x. MatchBool (plain i) (same x u) (x ≡ u)) (same_Some a t at) (subst (λ x. MatchBool (plain i) (same a x) (a ≡ x)) (same_Some b u at') all.0))
  matched_at i (a ∷ ts) (b ∷ us) all (suc j) t u at at' =
      let next : suc i + j ≡ i + suc j = omega arith in
      subst (λ k. MatchBool (plain k) (same t u) (t ≡ u)) next (matched_at (suc i) ts us all.1 j t u at at')
