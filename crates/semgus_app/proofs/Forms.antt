-- Words by their number, and words whose first one is a command's name.
use Rattle.std.proofs.Common.{◌≡◌, ℕ, List, [], ◌∷◌, Option, Some, None, MatchOption, length, slice_get, get_or, codes, ap, sym, ◌∙◌, inl, inr, arith}
use Rattle.semgus_app.specs.Tasks.{solve, show, check, Asks, HaveNoForm}

pub two_words : (ws : List (List ℕ)) (a b : List ℕ) → slice_get ws 0 ≡ Some a → slice_get ws 1 ≡ Some b → length ws ≡ 2 → ws ≡ a ∷ b ∷ []
two_words [] a b p q l = absurd (omega arith)
two_words (w ∷ []) a b p q l = absurd (omega arith)
two_words (w ∷ x ∷ []) a b p q l = cc
two_words (w ∷ x ∷ y ∷ ws) a b p q l = absurd (omega arith)

pub four_words : (ws : List (List ℕ)) (a b d e : List ℕ) → slice_get ws 0 ≡ Some a → slice_get ws 1 ≡ Some b → slice_get ws 2 ≡ Some d → slice_get ws 3 ≡ Some e
    → length ws ≡ 4 → ws ≡ a ∷ b ∷ d ∷ e ∷ []
four_words [] a b d e p q r s l = absurd (omega arith)
four_words (w ∷ []) a b d e p q r s l = absurd (omega arith)
four_words (w ∷ x ∷ []) a b d e p q r s l = absurd (omega arith)
four_words (w ∷ x ∷ y ∷ []) a b d e p q r s l = absurd (omega arith)
four_words (w ∷ x ∷ y ∷ z ∷ []) a b d e p q r s l = cc
four_words (w ∷ x ∷ y ∷ z ∷ v ∷ ws) a b d e p q r s l = absurd (omega arith)

-- a first word that is both
first_word : (words rest : List (List ℕ)) (a b : List ℕ) → slice_get words 0 ≡ Some a → words ≡ b ∷ rest → b ≡ a
first_word words rest a b p e = let q : slice_get (b ∷ rest) 0 ≡ Some a = sym (ap (λ ws. slice_get ws 0) e) ∙ p in cc

solve_no_check : codes "check" ≡ codes "solve" → ⊥
solve_no_check e = let first : 99 ≡ 115 = ap (λ word. get_or word 0 0) e in omega (arith, first)

solve_no_show : codes "show" ≡ codes "solve" → ⊥
solve_no_show e = let second : 104 ≡ 111 = ap (λ word. get_or word 1 0) e in omega (arith, second)

show_no_check : codes "check" ≡ codes "show" → ⊥
show_no_check e = let first : 99 ≡ 115 = ap (λ word. get_or word 0 0) e in omega (arith, first)

first_of_solve : (words : List (List ℕ)) (file : List ℕ) (height size : ℕ) → Asks words (solve file height size) → (rest : List (List ℕ)) × (words ≡ codes "solve" ∷ rest)
first_of_solve words file height size asks = elim asks.form [ inl e ↦ (_, e) | inr e ↦ (_, e.0) ]

-- words of `solve` are no other form
pub no_solve : (words : List (List ℕ)) → slice_get words 0 ≡ Some (codes "solve") → ((file : List ℕ) (height size : ℕ) → ¬ Asks words (solve file height size)) → HaveNoForm words
no_solve words first none (solve file height size) asks = none file height size asks
no_solve words first none (show file) asks = solve_no_show (first_word words _ _ _ first asks.form)
no_solve words first none (check file answer height) asks = solve_no_check (first_word words _ _ _ first asks.form)

pub no_show : (words : List (List ℕ)) → slice_get words 0 ≡ Some (codes "show") → ((file : List ℕ) → ¬ Asks words (show file)) → HaveNoForm words
no_show words first none (solve file height size) asks = let named = first_of_solve words file height size asks in solve_no_show (sym (first_word words named.0 _ _ first named.1))
no_show words first none (show file) asks = none file asks
no_show words first none (check file answer height) asks = show_no_check (first_word words _ _ _ first asks.form)

pub no_check : (words : List (List ℕ)) → slice_get words 0 ≡ Some (codes "check") → ((file answer : List ℕ) (height : ℕ) → ¬ Asks words (check file answer height)) → HaveNoForm words
no_check words first none (solve file height size) asks = let named = first_of_solve words file height size asks in solve_no_check (sym (first_word words named.0 _ _ first named.1))
no_check words first none (show file) asks = show_no_check (sym (first_word words _ _ _ first asks.form))
no_check words first none (check file answer height) asks = none file answer height asks

-- the words are a form of one kind, or have no form
pub or_none : {A : Type 0} (P R : Type 0) (Q : A → Type 0) (o : Option A) → (P → R) → MatchOption o P Q → MatchOption o R Q
or_none P R Q None f m = f m
or_none P R Q (Some x) f m = m
