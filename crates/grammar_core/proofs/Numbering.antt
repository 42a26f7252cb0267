-- The types in order, and the numbers of their nonterminals.
use Rattle.std.proofs.Common.{◌≡◌, ℕ, zero, suc, ◌+◌, ◌<◌, ◌≤◌, true, false, not, cond, nat_eq, nat_lt, List, [], ◌∷◌, length, map, filter, get_or, ◌⊎◌, inl, inr, sym, refl, ap, subst, ◌∙◌, arith}
use Rattle.std.proofs.lemmas.Bool.{cases_eq}
use Rattle.std.proofs.lemmas.Bool.Decides.{nat_tests}
use Rattle.std.proofs.lemmas.List.{get_or-map, length-map}
use Rattle.sig_core.specs.Lists.{numbers_from}
use Rattle.sig_core.specs.Signatures.{Declarations}
use Rattle.sig_core.specs.declared.ids.TypeId.{TypeId}
use Rattle.grammar_core.specs.Whole.{nonterminal_for, types_in_order}

module _ {X : Type 0} where
  pub length-numbers : (n : ℕ) (xs : List X) → length (numbers_from n xs) ≡ length xs
  length-numbers n [] = refl
  length-numbers n (x ∷ xs) = ap suc (length-numbers (suc n) xs)

  pub number_at : (n : ℕ) (xs : List X) (i d : ℕ) → i < length xs → get_or (numbers_from n xs) i d ≡ n + i
  number_at n [] i d h = absurd (omega arith)
  number_at n (x ∷ xs) zero d h = omega arith
  number_at n (x ∷ xs) (suc i) d h = let next = number_at (suc n) xs i d (omega arith) in omega arith

-- the numbers other than f
abbrev pub others : ℕ → List ℕ → List ℕ
others f ns = filter (λ n. not (nat_eq n f)) ns

pub is_same : (m f : ℕ) → m ≡ f → not (nat_eq m f) ≡ false
is_same m f e = grind (arith, nat_tests)

pub is_other : (m f : ℕ) → (m ≡ f → ⊥) → not (nat_eq m f) ≡ true
is_other m f e = grind (arith, nat_tests)

drops : (m f : ℕ) (ns : List ℕ) → m ≡ f → others f (m ∷ ns) ≡ others f ns
drops m f ns e = ap (λ b. cond b (m ∷ others f ns) (others f ns)) (is_same m f e)

keeps : (m f : ℕ) (ns : List ℕ) → (m ≡ f → ⊥) → others f (m ∷ ns) ≡ m ∷ others f ns
keeps m f ns e = ap (λ b. cond b (m ∷ others f ns) (others f ns)) (is_other m f e)

-- m is the i-th of the numbers from n on other than f
abbrev Skips : ℕ → ℕ → ℕ → ℕ → Type 0
Skips f n i m = ((n + i < f) × (m ≡ n + i)) ⊎ ((f ≤ n + i) × (m ≡ n + i + 1))

abbrev pub typed : ℕ → TypeId
typed n = record { 0 = n }

module _ {X : Type 0} (f : ℕ) where
  all_kept : (n : ℕ) (xs : List X) → f < n → others f (numbers_from n xs) ≡ numbers_from n xs
  all_kept n [] h = refl
  all_kept n (x ∷ xs) h = keeps n f (numbers_from (suc n) xs) (λ e. omega arith) ∙ ap (λ ns. n ∷ ns) (all_kept (suc n) xs (omega arith))

  length-others : (n : ℕ) (xs : List X) → n ≤ f → f < n + length xs → length (others f (numbers_from n xs)) + 1 ≡ length xs
  length-others n [] h k = absurd (omega arith)
  length-others n (x ∷ xs) h k =
      elim (cases_eq n f) [
        | inl e ↦ (let all = ap length (drops n f (numbers_from (suc n) xs) e ∙ all_kept (suc n) xs (omega arith)) in omega (arith, all, length-numbers (suc n) xs))
        | inr e ↦ (let one = ap length (keeps n f (numbers_from (suc n) xs) e) in let rest = length-others (suc n) xs (omega arith) (omega arith) in omega (arith, one, rest))
      ]

  kept_first : (n : ℕ) (xs : List X) (i d : ℕ) → (n ≡ f → ⊥) → n ≤ f
      → ((j : ℕ) → j < length (others f (numbers_from (suc n) xs)) → Skips f (suc n) j (get_or (others f (numbers_from (suc n) xs)) j d))
      → i < length (n ∷ others f (numbers_from (suc n) xs)) → Skips f n i (get_or (n ∷ others f (numbers_from (suc n) xs)) i d)
  kept_first n xs zero d e h rest k = inl (omega arith, omega arith)
  kept_first n xs (suc i) d e h rest k =
      elim (rest i (omega arith)) [ inl p ↦ inl (omega (arith, p.0), omega (arith, p.1)) | inr p ↦ inr (omega (arith, p.0), omega (arith, p.1)) ]

  other_at : (n : ℕ) (xs : List X) (i d : ℕ) → n ≤ f → i < length (others f (numbers_from n xs)) → Skips f n i (get_or (others f (numbers_from n xs)) i d)
  other_at n [] i d h k = absurd (omega arith)
  other_at n (x ∷ xs) i d h k =
      elim (cases_eq n f) [
        | inl e ↦ (let all = drops n f (numbers_from (suc n) xs) e ∙ all_kept (suc n) xs (omega arith) in
            let at = number_at (suc n) xs i d (omega (arith, ap length all, length-numbers (suc n) xs)) in
            inr (omega arith, ap (λ ns. get_or ns i d) all ∙ at ∙ (let sums : suc n + i ≡ n + i + 1 = omega arith in sums)))
        | inr e ↦ (let one = keeps n f (numbers_from (suc n) xs) e in
            subst (λ ns. Skips f n i (get_or ns i d)) (sym one) (kept_first n xs i d e h (λ j l. other_at (suc n) xs j d (omega arith) l) (subst (λ ns. i < length ns) one k)))
      ]

-- the number of a nonterminal
abbrev place : ℕ → ℕ → ℕ
place f t = cond (nat_eq t f) 0 (cond (nat_lt t f) (t + 1) t)

below_first : (m i f : ℕ) → 0 + i < f → m ≡ 0 + i → place f m ≡ suc i
below_first m i f h e = grind (arith, nat_tests)

above_first : (m i f : ℕ) → f ≤ 0 + i → m ≡ 0 + i + 1 → place f m ≡ suc i
above_first m i f h e = grind (arith, nat_tests)

pub place_within : (t f n : ℕ) → t < n → f < n → place f t < n
place_within t f n h k = grind (arith, nat_tests)

pub place_back : (t f n : ℕ) → place f t < n → f < n → t < n
place_back t f n h k = grind (arith, nat_tests)

place_of_one : (a b f : ℕ) → place f a ≡ place f b → a ≡ b
place_of_one a b f e = grind (arith, nat_tests)

module _ (sig : Declarations) (first : TypeId) (declared : first.0 < length sig.types) where
  pub length-types : length (types_in_order sig first) ≡ length sig.types
  length-types = omega (arith, length-others first.0 0 sig.types (omega arith) (omega arith), length-map (others first.0 (numbers_from 0 sig.types)) typed)

  -- the type of each place has that place for its number
  pub number_of : (j : ℕ) (d : TypeId) → j < length sig.types → (nonterminal_for first (get_or (types_in_order sig first) j d)).0 ≡ j
  number_of zero d h = grind (arith, nat_tests)
  number_of (suc i) d h =
      let ns = others first.0 (numbers_from 0 sig.types) in
      let within : i < length ns = omega (arith, length-others first.0 0 sig.types (omega arith) (omega arith)) in
      let at : get_or (map typed ns) i d ≡ typed (get_or ns i 0) = get_or-map typed ns i 0 d within in
      ap (λ t. (nonterminal_for first t).0) at ∙ elim (other_at first.0 0 sig.types i 0 (omega arith) within) [ inl p ↦ below_first (get_or ns i 0) i first.0 p.0 p.1 | inr p ↦ above_first (get_or ns i 0) i first.0 p.0 p.1 ]

  -- each of the types in order is declared
  pub declared_at : (j : ℕ) (d : TypeId) → j < length sig.types → (get_or (types_in_order sig first) j d).0 < length sig.types
  declared_at j d h = place_back (get_or (types_in_order sig first) j d).0 first.0 (length sig.types) (subst (λ k. k < length sig.types) (sym (number_of j d h)) h) declared

  -- each type stands at its number
  pub type_at : (t d : TypeId) → t.0 < length sig.types → get_or (types_in_order sig first) (nonterminal_for first t).0 d ≡ t
  type_at t d h =
      let j : ℕ = (nonterminal_for first t).0 in
      let at = number_of j d (place_within t.0 first.0 (length sig.types) h declared) in
      ap (λ k. record { 0 = k }) (place_of_one (get_or (types_in_order sig first) j d).0 t.0 first.0 at)
