-- The first fault of lists of faults.
use Rattle.std.proofs.Common.{◌≡◌, ◌+◌, ℕ, List, [], ◌∷◌, ◌++◌, refl}
use Rattle.std.specs.Option.{option_or}
use Rattle.std.specs.List.{flat_map}
use Rattle.syntax_core.specs.declared.fault.Fault.{Fault}
use Rattle.name_core.specs.Faults.{first, found_after, found_from}

pub first-append : (xs ys : List Fault) → first (xs ++ ys) ≡ option_or (first xs) (first ys)
first-append [] ys = refl
first-append (x ∷ xs) ys = refl

pub first-found_after : {X : Type 0} (find : List X → X → List Fault) (before : List X) (x : X) (xs : List X) →
    first (found_after find before (x ∷ xs)) ≡ option_or (first (find before x)) (first (found_after find (before ++ x ∷ []) xs))
first-found_after find before x xs = first-append (find before x) (found_after find (before ++ x ∷ []) xs)

pub first-found_from : {X : Type 0} (find : ℕ → X → List Fault) (n : ℕ) (x : X) (xs : List X) →
    first (found_from find n (x ∷ xs)) ≡ option_or (first (find n x)) (first (found_from find (n + 1) xs))
first-found_from find n x xs = first-append (find n x) (found_from find (n + 1) xs)

pub first-flat_map : {X : Type 0} (find : X → List Fault) (x : X) (xs : List X) →
    first (flat_map find (x ∷ xs)) ≡ option_or (first (find x)) (first (flat_map find xs))
first-flat_map find x xs = first-append (find x) (flat_map find xs)

pub ruleset firsts = (first-append, first-found_from, first-found_after, first-flat_map)
