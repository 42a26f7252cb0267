-- Two lists, element by element.
use Rattle.std.proofs.Common.{◌≡◌, ℕ, ◌+◌, ◌<◌, ◌≤◌, Bool, true, false, ◌&&◌, ◌||◌, List, [], ◌∷◌, length, map, get_or, drop, sym, refl, ap, ap₂, ◌∙◌, arith}
use lib.Pointwise.{pointwise}
use Rattle.std.specs.List.{list_any}
use Rattle.std.proofs.lemmas.List.{drop_more, drop_all}

module _ {X Y : Type 0} (R : X → Y → Bool) where
  pub pointwise_at : (xs : List X) (ys : List Y) (i : ℕ) (d : X) (e : Y) → i < length xs → i < length ys
      → pointwise R (drop i xs) (drop i ys) ≡ R (get_or xs i d) (get_or ys i e) && pointwise R (drop (i + 1) xs) (drop (i + 1) ys)
  pointwise_at xs ys i d e h k = ap₂ (pointwise R) (drop_more xs i d h) (drop_more ys i e k)

  pub pointwise_end : (xs : List X) (ys : List Y) (i : ℕ) → length xs ≤ i → length ys ≤ i → pointwise R (drop i xs) (drop i ys) ≡ true
  pointwise_end xs ys i h k = ap₂ (pointwise R) (drop_all i xs h) (drop_all i ys k)

  and_false : (a b : Bool) → b ≡ false → a && b ≡ false
  and_false true b e = e
  and_false false b e = refl

  pub lengths_differ : (xs : List X) (ys : List Y) → (length xs ≡ length ys → ⊥) → pointwise R xs ys ≡ false
  lengths_differ [] [] h = absurd (h refl)
  lengths_differ [] (y ∷ ys) h = refl
  lengths_differ (x ∷ xs) [] h = refl
  lengths_differ (x ∷ xs) (y ∷ ys) h = and_false (R x y) (pointwise R xs ys) (lengths_differ xs ys (λ e. h (omega (arith, e))))

pub pointwise-map : {X Y Z : Type 0} (R : Y → Z → Bool) (f : X → Y) (xs : List X) (zs : List Z) → pointwise R (map f xs) zs ≡ pointwise (λ x z. R (f x) z) xs zs
pointwise-map R f [] [] = refl
pointwise-map R f [] (z ∷ zs) = refl
pointwise-map R f (x ∷ xs) [] = refl
pointwise-map R f (x ∷ xs) (z ∷ zs) = ap (λ b. R (f x) z && b) (pointwise-map R f xs zs)

-- two tests that agree find the same
pub list_any_agree : {X : Type 0} (p q : X → Bool) → ((x : X) → p x ≡ q x) → (xs : List X) → list_any p xs ≡ list_any q xs
list_any_agree p q same [] = refl
list_any_agree p q same (x ∷ xs) = ap₂ (λ a b. a || b) (same x) (list_any_agree p q same xs)

pub both_false : (a b : Bool) → b ≡ false → a && b ≡ false
both_false true b e = e
both_false false b e = refl

module _ {X : Type 0} (p : X → Bool) where
  any_at : (xs : List X) (i : ℕ) (x : X) → i < length xs → x ≡ get_or xs i x → list_any p (drop i xs) ≡ p x || list_any p (drop (i + 1) xs)
  any_at xs i x h e = ap (list_any p) (drop_more xs i x h) ∙ ap (λ y. p y || list_any p (drop (i + 1) xs)) (sym e)

  pub any_found : (xs : List X) (i : ℕ) (x : X) → i < length xs → x ≡ get_or xs i x → p x ≡ true → list_any p (drop i xs) ≡ true
  any_found xs i x h e passes = any_at xs i x h e ∙ ap (λ b. b || list_any p (drop (i + 1) xs)) passes

  pub any_passed : (xs : List X) (i : ℕ) (x : X) → i < length xs → x ≡ get_or xs i x → p x ≡ false → list_any p (drop (i + 1) xs) ≡ list_any p (drop i xs)
  any_passed xs i x h e fails = sym (any_at xs i x h e ∙ ap (λ b. b || list_any p (drop (i + 1) xs)) fails)

  pub any_end : (xs : List X) (i : ℕ) → length xs ≤ i → list_any p (drop i xs) ≡ false
  any_end xs i h = ap (list_any p) (drop_all i xs h)
