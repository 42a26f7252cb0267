-- The numbers of the items that pass.
use Rattle.std.proofs.Common.{◌≡◌, ℕ, suc, ◌+◌, ◌<◌, ◌≤◌, Bool, true, false, if◌then◌else◌, List, [], ◌∷◌, ◌++◌, zero, length, filter, slice_get, get_or, Contains, Some, option_and_then, refl, sym, ap, subst, ◌∙◌, arith}
use Rattle.std.proofs.lemmas.List.{append_assoc, length_push}
use Rattle.tables.specs.Tables.{places}

module _ {X : Type 0} (p : X → Bool) where
  -- as many as the items that pass
  pub length-places : (n : ℕ) (xs : List X) → length (places p n xs) ≡ length (filter p xs)
  length-places n [] = refl
  length-places n (x ∷ xs) = by (p x) (length-places (suc n) xs)
    where
      by : (b : Bool) → length (places p (suc n) xs) ≡ length (filter p xs) → length (if b then n ∷ places p (suc n) xs else places p (suc n) xs) ≡ length (if b then x ∷ filter p xs else filter p xs)
      by true e = ap suc e
      by false e = e

  -- and no more than all items
  pub places_few : (n : ℕ) (xs : List X) → length (places p n xs) ≤ length xs
  places_few n [] = omega arith
  places_few n (x ∷ xs) = by (p x) (places_few (suc n) xs)
    where
      by : (b : Bool) → length (places p (suc n) xs) ≤ length xs → length (if b then n ∷ places p (suc n) xs else places p (suc n) xs) ≤ suc (length xs)
      by true l = omega arith
      by false l = omega arith

  push_from : (n : ℕ) (xs : List X) (x : X) → places p n (xs ++ x ∷ []) ≡ places p n xs ++ (if p x then (n + length xs) ∷ [] else [])
  push_from n [] x = by (p x)
    where
      by : (b : Bool) → (if b then n ∷ [] else []) ≡ (if b then (n + 0) ∷ [] else [])
      by true = let e : n ≡ n + 0 = omega arith in ap (λ m. m ∷ []) e
      by false = refl
  push_from n (y ∷ ys) x =
      let next : suc n + length ys ≡ n + suc (length ys) = omega arith in
      let rest = subst (λ m. places p (suc n) (ys ++ x ∷ []) ≡ places p (suc n) ys ++ (if p x then m ∷ [] else [])) next (push_from (suc n) ys x) in
      by (p y) rest
    where
      by : (b : Bool) → places p (suc n) (ys ++ x ∷ []) ≡ places p (suc n) ys ++ (if p x then (n + suc (length ys)) ∷ [] else [])
          → (if b then n ∷ places p (suc n) (ys ++ x ∷ []) else places p (suc n) (ys ++ x ∷ [])) ≡ (if b then n ∷ places p (suc n) ys else places p (suc n) ys) ++ (if p x then (n + suc (length ys)) ∷ [] else [])
      by true rest = ap (λ ms. n ∷ ms) rest
      by false rest = rest

  -- an item that goes last
  pub places-push : (xs : List X) (x : X) → places p 0 (xs ++ x ∷ []) ≡ places p 0 xs ++ (if p x then length xs ∷ [] else [])
  places-push xs x =
      let e : 0 + length xs ≡ length xs = omega arith in
      subst (λ m. places p 0 (xs ++ x ∷ []) ≡ places p 0 xs ++ (if p x then m ∷ [] else [])) e (push_from 0 xs x)

  item_at : (pre : List X) (x : X) (xs : List X) → slice_get (pre ++ x ∷ xs) (length pre) ≡ Some x
  item_at [] x xs = refl
  item_at (y ∷ pre) x xs = item_at pre x xs

  -- the item with a number among those that pass is the one at its place
  pub nth-places : (pre xs : List X) (k : ℕ) → slice_get (filter p xs) k ≡ option_and_then (slice_get (pre ++ xs)) (slice_get (places p (length pre) xs) k)
  nth-places pre [] k = refl
  nth-places pre (x ∷ xs) k =
      let longer : length (pre ++ x ∷ []) ≡ suc (length pre) = length_push pre x ∙ (omega arith) in
      let rest : (j : ℕ) → slice_get (filter p xs) j ≡ option_and_then (slice_get (pre ++ x ∷ xs)) (slice_get (places p (suc (length pre)) xs) j) =
      λ j. subst (λ n. slice_get (filter p xs) j ≡ option_and_then (slice_get (pre ++ x ∷ xs)) (slice_get (places p n xs) j)) longer
      (subst (λ all. slice_get (filter p xs) j ≡ option_and_then (slice_get all) (slice_get (places p (length (pre ++ x ∷ [])) xs) j)) (append_assoc pre (x ∷ []) xs) (nth-places (pre ++ x ∷ []) xs j)) in
      by (p x) k rest
    where
      by : (b : Bool) (j : ℕ) → ((j : ℕ) → slice_get (filter p xs) j ≡ option_and_then (slice_get (pre ++ x ∷ xs)) (slice_get (places p (suc (length pre)) xs) j))
          → slice_get (if b then x ∷ filter p xs else filter p xs) j ≡ option_and_then (slice_get (pre ++ x ∷ xs)) (slice_get (if b then length pre ∷ places p (suc (length pre)) xs else places p (suc (length pre)) xs) j)
      by true zero rest = sym (item_at pre x xs)
      by true (suc j) rest = rest j
      by false j rest = rest j

  -- an item that passes has its number there
  pub place_of : (n : ℕ) (xs : List X) (k m : ℕ) (x : X) → k < length xs → get_or xs k x ≡ x → p x ≡ true → m ≡ n + k → Contains (places p n xs) m
  place_of n [] k m x within is passes e = absurd (omega arith)
  place_of n (y ∷ ys) zero m x within is passes e = by (p y) (ap p is ∙ passes)
    where
      by : (b : Bool) → b ≡ true → Contains (if b then n ∷ places p (suc n) ys else places p (suc n) ys) m
      by true h = let same : n ≡ m = omega arith in (0, omega arith, same)
      by false h = cc
  place_of n (y ∷ ys) (suc k) m x within is passes e = by (p y) (place_of (suc n) ys k m x (omega arith) is passes (omega arith))
    where
      by : (b : Bool) → Contains (places p (suc n) ys) m → Contains (if b then n ∷ places p (suc n) ys else places p (suc n) ys) m
      by true (j, h, at) = (suc j, omega arith, at)
      by false there = there
