-- The first fault of items that are numbered, or that count for so many.
use Rattle.std.proofs.Common.{◌≡◌, ◌+◌, ℕ, List, [], ◌∷◌, ◌++◌, length, map, refl, sym, ap, ap₂, ◌∙◌, append_assoc, arith}
use Rattle.std.specs.Option.{option_or}
use Rattle.syntax_core.specs.declared.fault.Fault.{Fault}
use Rattle.name_core.specs.Faults.{first, found_after, found_from}
use Rattle.name_core.specs.Walks.{counted, total}
use Rattle.name_core.proofs.Firsts.{first-append, first-found_from, first-found_after, first-flat_map}

pub append_nil : {X : Type 0} (xs : List X) → xs ++ [] ≡ xs
append_nil [] = refl
append_nil (x ∷ xs) = ap (λ ys. x ∷ ys) (append_nil xs)

pub found_from-append : {X : Type 0} (find : ℕ → X → List Fault) (n : ℕ) (xs ys : List X) →
    found_from find n (xs ++ ys) ≡ found_from find n xs ++ found_from find (n + length xs) ys
found_from-append find n [] ys = let same : n ≡ n + 0 = omega arith in ap (λ m. found_from find m ys) same
found_from-append find n (x ∷ xs) ys =
    let same : (n + 1) + length xs ≡ n + length (x ∷ xs) = omega arith in
    ap (λ more. find n x ++ more) (found_from-append find (n + 1) xs ys)
    ∙ sym (append_assoc (find n x) (found_from find (n + 1) xs) (found_from find ((n + 1) + length xs) ys))
    ∙ ap (λ m. (find n x ++ found_from find (n + 1) xs) ++ found_from find m ys) same

pub first-found_from-append : {X : Type 0} (find : ℕ → X → List Fault) (n : ℕ) (xs ys : List X) →
    first (found_from find n (xs ++ ys)) ≡ option_or (first (found_from find n xs)) (first (found_from find (n + length xs) ys))
first-found_from-append find n xs ys =
    ap first (found_from-append find n xs ys) ∙ first-append (found_from find n xs) (found_from find (n + length xs) ys)

pub ruleset numbered = (first-append, first-found_from, first-found_after, first-flat_map, first-found_from-append)

pub total-append : {X : Type 0} (size : X → ℕ) (xs ys : List X) → total size (xs ++ ys) ≡ total size xs + total size ys
total-append size [] ys = omega arith
total-append size (x ∷ xs) ys = let more : total size (xs ++ ys) ≡ total size xs + total size ys = total-append size xs ys in omega arith

pub total-map : {X Y : Type 0} (size : Y → ℕ) (f : X → Y) (xs : List X) → total size (map f xs) ≡ total (λ x. size (f x)) xs
total-map size f [] = refl
total-map size f (x ∷ xs) = ap (λ n. size (f x) + n) (total-map size f xs)

pub counted-append : {X : Type 0} (size : X → ℕ) (find : ℕ → X → List Fault) (n : ℕ) (xs ys : List X) →
    counted size find n (xs ++ ys) ≡ counted size find n xs ++ counted size find (n + total size xs) ys
counted-append size find n [] ys = let same : n ≡ n + 0 = omega arith in ap (λ m. counted size find m ys) same
counted-append size find n (x ∷ xs) ys =
    let same : (n + size x) + total size xs ≡ n + (size x + total size xs) = omega arith in
    ap (λ more. find n x ++ more) (counted-append size find (n + size x) xs ys)
    ∙ sym (append_assoc (find n x) (counted size find (n + size x) xs) (counted size find ((n + size x) + total size xs) ys))
    ∙ ap (λ m. (find n x ++ counted size find (n + size x) xs) ++ counted size find m ys) same

pub counted-map : {X Y : Type 0} (size : Y → ℕ) (find : ℕ → Y → List Fault) (f : X → Y) (n : ℕ) (xs : List X) →
    counted size find n (map f xs) ≡ counted (λ x. size (f x)) (λ k x. find k (f x)) n xs
counted-map size find f n [] = refl
counted-map size find f n (x ∷ xs) = ap (λ more. find n (f x) ++ more) (counted-map size find f (n + size (f x)) xs)

-- counting alike, and finding alike
pub counted-alike : {X : Type 0} (size other : X → ℕ) (find finds : ℕ → X → List Fault) → ((x : X) → size x ≡ other x) → ((k : ℕ) (x : X) → find k x ≡ finds k x) →
    (n : ℕ) (xs : List X) → counted size find n xs ≡ counted other finds n xs
counted-alike size other find finds sizes alike n [] = refl
counted-alike size other find finds sizes alike n (x ∷ xs) =
    ap (λ more. find n x ++ more) (counted-alike size other find finds sizes alike (n + size x) xs)
    ∙ ap₂ (λ here k. here ++ counted other finds (n + k) xs) (alike n x) (sizes x)

-- where what is found depends on how many come before
pub found_after-counted : {X : Type 0} (size : X → ℕ) (find : ℕ → X → List Fault) (n : ℕ) (before xs : List X) →
    found_after (λ earlier x. find (n + total size earlier) x) before xs ≡ counted size find (n + total size before) xs
found_after-counted size find n before [] = refl
found_after-counted size find n before (x ∷ xs) =
    let more : total size (before ++ x ∷ []) ≡ total size before + (size x + 0) = total-append size before (x ∷ []) in
    let same : n + total size (before ++ x ∷ []) ≡ (n + total size before) + size x = omega arith in
    ap (λ rest. find (n + total size before) x ++ rest) (found_after-counted size find n (before ++ x ∷ []) xs)
    ∙ ap (λ k. find (n + total size before) x ++ counted size find k xs) same

pub first-counted : {X : Type 0} (size : X → ℕ) (find : ℕ → X → List Fault) (n : ℕ) (x : X) (xs : List X) →
    first (counted size find n (x ∷ xs)) ≡ option_or (first (find n x)) (first (counted size find (n + size x) xs))
first-counted size find n x xs = first-append (find n x) (counted size find (n + size x) xs)

pub first-counted-append : {X : Type 0} (size : X → ℕ) (find : ℕ → X → List Fault) (n : ℕ) (xs ys : List X) →
    first (counted size find n (xs ++ ys)) ≡ option_or (first (counted size find n xs)) (first (counted size find (n + total size xs) ys))
first-counted-append size find n xs ys =
    ap first (counted-append size find n xs ys) ∙ first-append (counted size find n xs) (counted size find (n + total size xs) ys)
