-- Why a list of commands or of parts is refused: the first of its faults.
use Rattle.std.proofs.Common.{◌≡◌, ◌<◌, ◌+◌, ℕ, Option, None, List, [], ◌∷◌, ◌++◌, map, drop, length, get_or, sym, ap, ◌∙◌, append_assoc}
use Rattle.std.proofs.lemmas.List.{drop_more}
use Rattle.std.specs.Option.{option_or}
use Rattle.std.specs.List.{flat_map}
use Rattle.syntax_core.specs.declared.fault.Fault.{Fault}
use Rattle.sort_core.specs.declared.error.ElabError.{ElabError}
use Rattle.sort_core.specs.declared.error.ElabError.TheVariants as error
use Rattle.sort_core.specs.Errors.{IsDue}
use Rattle.name_core.specs.Faults.{first}
use Rattle.name_core.proofs.Firsts.{first-flat_map}

pub due_first : (due rest whole : Option Fault) (e : ElabError) → option_or due rest ≡ whole → IsDue due e → IsDue whole e
due_first due rest whole (error.Fault fault) is h = sym is ∙ ap (λ o. option_or o rest) h
due_first due rest whole error.Memory is h = tt

-- what is due at the item with number i is due for the whole list, where no earlier item has a fault
pub due_among : {X : Type 0} (find : X → List Fault) (xs : List X) (i : ℕ) (x : X) (whole : Option Fault) (e : ElabError) →
    i < length xs → x ≡ get_or xs i x → first (flat_map find (drop i xs)) ≡ whole → IsDue (first (find x)) e → IsDue whole e
due_among find xs i x whole e within is left h =
    let here : drop i xs ≡ x ∷ drop (i + 1) xs = drop_more xs i x within ∙ ap (λ y. y ∷ drop (i + 1) xs) (sym is) in
    due_first (first (find x)) (first (flat_map find (drop (i + 1) xs))) whole e
    (sym (first-flat_map find x (drop (i + 1) xs)) ∙ sym (ap (λ ys. first (flat_map find ys)) here) ∙ left) h

pub here_then : {X : Type 0} (xs : List X) (i : ℕ) (x : X) → i < length xs → x ≡ get_or xs i x → drop i xs ≡ x ∷ drop (i + 1) xs
here_then xs i x within is = drop_more xs i x within ∙ ap (λ y. y ∷ drop (i + 1) xs) (sym is)

-- where the item with number i has no fault, the first is among those after it
pub none_among : {X : Type 0} (find : X → List Fault) (xs : List X) (i : ℕ) (x : X) (whole : Option Fault) →
    i < length xs → x ≡ get_or xs i x → first (flat_map find (drop i xs)) ≡ whole → first (find x) ≡ None → first (flat_map find (drop (i + 1) xs)) ≡ whole
none_among find xs i x whole within is left none =
    sym (ap (λ ys. first (flat_map find ys)) (here_then xs i x within is) ∙ first-flat_map find x (drop (i + 1) xs) ∙ ap (λ o. option_or o (first (flat_map find (drop (i + 1) xs)))) none) ∙ left

-- one more is made
pub made_more : {X Y : Type 0} (f : X → Y) (out : List Y) (xs : List X) (i : ℕ) (x : X) (whole : List Y) →
    i < length xs → x ≡ get_or xs i x → out ++ map f (drop i xs) ≡ whole → (out ++ f x ∷ []) ++ map f (drop (i + 1) xs) ≡ whole
made_more f out xs i x whole within is left =
    append_assoc out (f x ∷ []) (map f (drop (i + 1) xs)) ∙ sym (ap (λ ys. out ++ map f ys) (here_then xs i x within is)) ∙ left
