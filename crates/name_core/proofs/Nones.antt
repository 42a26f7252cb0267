-- What stands where no fault is found.
use Rattle.std.proofs.Common.{◌≡◌, ◌<◌, ◌≤◌, ◌+◌, ℕ, Bool, true, false, nat_le, nat_lt, if◌then◌else◌, Some, None, List, [], ◌∷◌, ◌++◌, length, All, refl, arith}
use Rattle.std.proofs.lemmas.Bool.Decides.{nat_tests}
use Rattle.std.proofs.lemmas.List.Elements.{All-nil, All-cons}
use Rattle.std.specs.List.{flat_map}
use Rattle.syntax_core.specs.declared.fault.Fault.{Fault}
use Rattle.syntax_core.specs.Shapes.{refusal}
use Rattle.name_core.specs.Faults.{bad_if, first, found_after, found_from, past}
use Rattle.name_core.specs.Walks.{counted, total}

some_none : (fault : Fault) → Some fault ≡ None → ⊥
some_none fault h = cc

pub none_append : (xs ys : List Fault) → first (xs ++ ys) ≡ None → (first xs ≡ None) × (first ys ≡ None)
none_append [] ys h = (refl, h)
none_append (x ∷ xs) ys h = absurd (some_none x h)

none_past : (b : Bool) (fault : Fault) → first (if b then [] else fault ∷ []) ≡ None → b ≡ true
none_past true fault h = refl
none_past false fault h = absurd (some_none fault h)

below : (m n : ℕ) → nat_lt m n ≡ true → m < n
below m n h = grind (arith, nat_tests)

pub past_none : (most limit number place : ℕ) → first (past most limit number place) ≡ None → number < most
past_none most limit number place h = below number most (none_past (nat_lt number most) (record { place = place; reason = 50; limit = limit }) h)

at_most : (m n : ℕ) → nat_le m n ≡ true → m ≤ n
at_most m n h = grind (arith, nat_tests)

pub none_long : (m n : ℕ) (fault : Fault) → first (if nat_le m n then [] else fault ∷ []) ≡ None → m ≤ n
none_long m n fault h = at_most m n (none_past (nat_le m n) fault h)

pub bad_if_none : (b : Bool) (reason place : ℕ) → first (bad_if b reason place) ≡ None → b ≡ false
bad_if_none false reason place h = refl
bad_if_none true reason place h = absurd (some_none (refusal place reason) h)

-- numbered items are few, where each one that has no fault has a number below the most
pub numbered_few : {X : Type 0} (find : ℕ → X → List Fault) (most : ℕ) → ((k : ℕ) (x : X) → first (find k x) ≡ None → k < most) →
    (n : ℕ) (xs : List X) → n ≤ most → first (found_from find n xs) ≡ None → n + length xs ≤ most
numbered_few find most room n [] few h = omega arith
numbered_few find most room n (x ∷ xs) few h =
    let parts : (first (find n x) ≡ None) × (first (found_from find (n + 1) xs) ≡ None) = none_append (find n x) (found_from find (n + 1) xs) h in
    let here : n < most = room n x parts.0 in
    let rest : (n + 1) + length xs ≤ most = numbered_few find most room (n + 1) xs (omega arith) parts.1 in
    omega arith

pub numbered_all : {X : Type 0} (find : ℕ → X → List Fault) (P : X → Type 0) → ((k : ℕ) (x : X) → first (find k x) ≡ None → P x) →
    (n : ℕ) (xs : List X) → first (found_from find n xs) ≡ None → All P xs
numbered_all find P each n [] h = All-nil P
numbered_all find P each n (x ∷ xs) h =
    let parts : (first (find n x) ≡ None) × (first (found_from find (n + 1) xs) ≡ None) = none_append (find n x) (found_from find (n + 1) xs) h in
    All-cons P x xs (each n x parts.0) (numbered_all find P each (n + 1) xs parts.1)

pub all_none : {X : Type 0} (find : X → List Fault) (P : X → Type 0) → ((x : X) → first (find x) ≡ None → P x) → (xs : List X) → first (flat_map find xs) ≡ None → All P xs
all_none find P each [] h = All-nil P
all_none find P each (x ∷ xs) h =
    let parts : (first (find x) ≡ None) × (first (flat_map find xs) ≡ None) = none_append (find x) (flat_map find xs) h in
    All-cons P x xs (each x parts.0) (all_none find P each xs parts.1)

-- items that count for so many are few
pub counted_few : {X : Type 0} (size : X → ℕ) (find : ℕ → X → List Fault) (most : ℕ) → ((k : ℕ) (x : X) → k ≤ most → first (find k x) ≡ None → k + size x ≤ most) →
    (n : ℕ) (xs : List X) → n ≤ most → first (counted size find n xs) ≡ None → n + total size xs ≤ most
counted_few size find most room n [] few h = omega arith
counted_few size find most room n (x ∷ xs) few h =
    let parts : (first (find n x) ≡ None) × (first (counted size find (n + size x) xs) ≡ None) = none_append (find n x) (counted size find (n + size x) xs) h in
    let here : n + size x ≤ most = room n x few parts.0 in
    let rest : (n + size x) + total size xs ≤ most = counted_few size find most room (n + size x) xs here parts.1 in
    omega arith

pub counted_all : {X : Type 0} (size : X → ℕ) (find : ℕ → X → List Fault) (P : X → Type 0) → ((k : ℕ) (x : X) → first (find k x) ≡ None → P x) →
    (n : ℕ) (xs : List X) → first (counted size find n xs) ≡ None → All P xs
counted_all size find P each n [] h = All-nil P
counted_all size find P each n (x ∷ xs) h =
    let parts : (first (find n x) ≡ None) × (first (counted size find (n + size x) xs) ≡ None) = none_append (find n x) (counted size find (n + size x) xs) h in
    All-cons P x xs (each n x parts.0) (counted_all size find P each (n + size x) xs parts.1)

pub found_all : {X : Type 0} (find : List X → X → List Fault) (P : X → Type 0) → ((before : List X) (x : X) → first (find before x) ≡ None → P x) →
    (before xs : List X) → first (found_after find before xs) ≡ None → All P xs
found_all find P each before [] h = All-nil P
found_all find P each before (x ∷ xs) h =
    let parts : (first (find before x) ≡ None) × (first (found_after find (before ++ x ∷ []) xs) ≡ None) = none_append (find before x) (found_after find (before ++ x ∷ []) xs) h in
    All-cons P x xs (each before x parts.0) (found_all find P each (before ++ x ∷ []) xs parts.1)
