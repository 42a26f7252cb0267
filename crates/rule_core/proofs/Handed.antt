-- What holds of each rule of a constructor, by the rules and by their numbers.
use Rattle.std.proofs.Common.{◌≡◌, ℕ, suc, Bool, true, false, if◌then◌else◌, List, [], ◌∷◌, ◌++◌, length, slice_get, Some, MatchOption, All, refl, sym, ap, subst, ◌∙◌, arith, eq-eqb, eqb-true}
use Rattle.std.specs.Prelude.{⊤}
use Rattle.std.proofs.lemmas.List.{append_assoc, length_push}
use Rattle.std.proofs.lemmas.List.Elements.{All-nil, All-cons, All-head, All-tail}
use Rattle.sig_core.specs.Signatures.{Declarations}
use Rattle.sig_core.specs.declared.ids.ConId.{ConId}
use Rattle.tables.specs.Tables.{places}
use Rattle.rule_core.specs.declared.rule.Rule.{Rule}
use Rattle.rule_core.specs.Flow.{HandsOn, HandsOnAt, TakesInputs}
use Rattle.rule_core.specs.Numbers.{is_with}

module _ {X : Type 0} (p : X → Bool) (Q : X → Type 0) where
  abbrev At : List X → ℕ → Type 0
  At xs n = MatchOption (slice_get xs n) ⊤ Q

  item_at : (pre : List X) (x : X) (xs : List X) → slice_get (pre ++ x ∷ xs) (length pre) ≡ Some x
  item_at [] x xs = refl
  item_at (y ∷ pre) x xs = item_at pre x xs

  abbrev AtAll : List X → List X → ℕ → Type 0
  AtAll all xs n = All (At all) (places p n xs)

  -- where the item before is counted in, too
  onward : (pre : List X) (x : X) (xs : List X) → AtAll ((pre ++ x ∷ []) ++ xs) xs (length (pre ++ x ∷ [])) ≡ AtAll (pre ++ x ∷ xs) xs (suc (length pre))
  onward pre x xs =
      let longer : length (pre ++ x ∷ []) ≡ suc (length pre) = length_push pre x ∙ (omega arith) in
      ap (λ all. AtAll all xs (length (pre ++ x ∷ []))) (append_assoc pre (x ∷ []) xs) ∙ ap (AtAll (pre ++ x ∷ xs) xs) longer

  pub by_number : (pre xs : List X) → All (λ x. p x ≡ true → Q x) xs → AtAll (pre ++ xs) xs (length pre)
  by_number pre [] h = All-nil (At (pre ++ []))
  by_number pre (x ∷ xs) h =
      let later : AtAll (pre ++ x ∷ xs) xs (suc (length pre)) = subst (λ T. T) (onward pre x xs) (by_number (pre ++ x ∷ []) xs (All-tail (λ y. p y ≡ true → Q y) x xs h)) in
      by (p x) (All-head (λ y. p y ≡ true → Q y) x xs h) later
    where
      by : (b : Bool) → (b ≡ true → Q x) → AtAll (pre ++ x ∷ xs) xs (suc (length pre)) → All (At (pre ++ x ∷ xs)) (if b then length pre ∷ places p (suc (length pre)) xs else places p (suc (length pre)) xs)
      by true here later = All-cons (At (pre ++ x ∷ xs)) (length pre) (places p (suc (length pre)) xs) (subst (λ o. MatchOption o ⊤ Q) (sym (item_at pre x xs)) (here refl)) later
      by false here later = later

  pub by_item : (pre xs : List X) → AtAll (pre ++ xs) xs (length pre) → All (λ x. p x ≡ true → Q x) xs
  by_item pre [] h = All-nil (λ x. p x ≡ true → Q x)
  by_item pre (x ∷ xs) h =
      let both = by (p x) h in
      All-cons (λ y. p y ≡ true → Q y) x xs both.0 (by_item (pre ++ x ∷ []) xs (subst (λ T. T) (sym (onward pre x xs)) both.1))
    where
      by : (b : Bool) → All (At (pre ++ x ∷ xs)) (if b then length pre ∷ places p (suc (length pre)) xs else places p (suc (length pre)) xs) → (b ≡ true → Q x) × AtAll (pre ++ x ∷ xs) xs (suc (length pre))
      by true all = (
        λ _. subst (λ o. MatchOption o ⊤ Q) (item_at pre x xs) (All-head (At (pre ++ x ∷ xs)) (length pre) (places p (suc (length pre)) xs) all),
        All-tail (At (pre ++ x ∷ xs)) (length pre) (places p (suc (length pre)) xs) all,
      )
      by false all = (λ e. absurd cc, all)

module _ (sig : Declarations) (rules : List Rule) (c : ConId) (i : ℕ) where
  abbrev Takes : Rule → Type 0
  Takes rule = All (TakesInputs sig rule i) rule.atoms

  pub handed_by_number : HandsOn sig rules c i → All (HandsOnAt sig rules i) (places (is_with c.0) 0 rules)
  handed_by_number h = by_number (is_with c.0) Takes [] rules (λ k d l e. h k d l (ap (λ n. record { 0 = n }) (eqb-true _ c.0 e)))

  pub handed_by_rule : All (HandsOnAt sig rules i) (places (is_with c.0) 0 rules) → HandsOn sig rules c i
  handed_by_rule h = let all = by_item (is_with c.0) Takes [] rules h in λ k d l e. all k d l (eq-eqb _ c.0 (ap (λ (q : ConId). q.0) e))
