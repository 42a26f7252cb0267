-- A loop that looks for the first fault of a list: what is left after some items has the fault of the whole.
use Rattle.std.proofs.Common.{◌≡◌, ◌<◌, ◌+◌, ℕ, Option, Some, None, List, [], ◌∷◌, ◌++◌, take, drop, length, get_or, slice_get, map, sym, ap, ap₂, ◌∙◌, append_assoc}
use Rattle.std.proofs.lemmas.Grind.{take_at_read}
use Rattle.std.proofs.lemmas.List.{drop_more}
use Rattle.std.proofs.lemmas.Option.{get_or_from_slice_get, slice_get_within}
use Rattle.std.specs.List.{flat_map, zip}
use Rattle.std.specs.Option.{option_or}
use Rattle.syntax_core.specs.declared.fault.Fault.{Fault}
use Rattle.name_core.specs.Faults.{first, found_after, found_from}
use Rattle.name_core.specs.Walks.{counted, total}
use Rattle.name_core.proofs.Firsts.{first-append, first-flat_map, first-found_after, first-found_from}
use Rattle.name_core.proofs.Numbering.{first-counted-append, first-found_from-append}

pub here_then : {X : Type 0} (xs : List X) (i : ℕ) (x : X) → i < length xs → x ≡ get_or xs i x → drop i xs ≡ x ∷ drop (i + 1) xs
here_then xs i x within is = drop_more xs i x within ∙ ap (λ y. y ∷ drop (i + 1) xs) (sym is)

-- an item that is read has those after it behind it
pub read_then : {X : Type 0} (xs : List X) (i : ℕ) (x : X) → slice_get xs i ≡ Some x → drop i xs ≡ x ∷ drop (i + 1) xs
read_then xs i x at =
    drop_more xs i x (slice_get_within xs i x at) ∙ ap (λ y. y ∷ drop (i + 1) xs) (get_or_from_slice_get xs i x x at)

some_or : (o rest : Option Fault) (fault : Fault) → o ≡ Some fault → option_or o rest ≡ Some fault
some_or o rest fault is = ap (λ p. option_or p rest) is

none_or : (o rest : Option Fault) → o ≡ None → option_or o rest ≡ rest
none_or o rest is = ap (λ p. option_or p rest) is

-- Each item by itself.

pub flat_here : {X : Type 0} (find : X → List Fault) (xs : List X) (i : ℕ) (x : X) (whole : Option Fault) (fault : Fault) →
    i < length xs → x ≡ get_or xs i x → first (flat_map find (drop i xs)) ≡ whole → Some fault ≡ first (find x) → Some fault ≡ whole
flat_here find xs i x whole fault within is left here =
    sym (ap (λ ys. first (flat_map find ys)) (here_then xs i x within is) ∙ first-flat_map find x (drop (i + 1) xs)
    ∙ some_or (first (find x)) (first (flat_map find (drop (i + 1) xs))) fault (sym here)) ∙ left

pub flat_next : {X : Type 0} (find : X → List Fault) (xs : List X) (i : ℕ) (x : X) (whole : Option Fault) →
    i < length xs → x ≡ get_or xs i x → first (flat_map find (drop i xs)) ≡ whole → None ≡ first (find x) → first (flat_map find (drop (i + 1) xs)) ≡ whole
flat_next find xs i x whole within is left here =
    sym (ap (λ ys. first (flat_map find ys)) (here_then xs i x within is) ∙ first-flat_map find x (drop (i + 1) xs)
    ∙ none_or (first (find x)) (first (flat_map find (drop (i + 1) xs))) (sym here)) ∙ left

-- each item beside the one of another list
pub beside_here : {X Y : Type 0} (find : X × Y → List Fault) (xs : List X) (ys : List Y) (i : ℕ) (x : X) (y : Y) (whole : Option Fault) (fault : Fault) →
    i < length xs → x ≡ get_or xs i x → i < length ys → y ≡ get_or ys i y → first (flat_map find (zip (drop i xs) (drop i ys))) ≡ whole → Some fault ≡ first (find (x, y)) → Some fault ≡ whole
beside_here find xs ys i x y whole fault within is among are left here =
    sym (ap₂ (λ us vs. first (flat_map find (zip us vs))) (here_then xs i x within is) (here_then ys i y among are)
    ∙ first-flat_map find (x, y) (zip (drop (i + 1) xs) (drop (i + 1) ys))
    ∙ some_or (first (find (x, y))) (first (flat_map find (zip (drop (i + 1) xs) (drop (i + 1) ys)))) fault (sym here)) ∙ left

-- Each item by its number.

pub numbered_here : {X : Type 0} (find : ℕ → X → List Fault) (n : ℕ) (xs : List X) (i : ℕ) (x : X) (whole : Option Fault) (fault : Fault) →
    i < length xs → x ≡ get_or xs i x → first (found_from find n (drop i xs)) ≡ whole → Some fault ≡ first (find n x) → Some fault ≡ whole
numbered_here find n xs i x whole fault within is left here =
    sym (ap (λ ys. first (found_from find n ys)) (here_then xs i x within is) ∙ first-found_from find n x (drop (i + 1) xs)
    ∙ some_or (first (find n x)) (first (found_from find (n + 1) (drop (i + 1) xs))) fault (sym here)) ∙ left

pub numbered_next : {X : Type 0} (find : ℕ → X → List Fault) (n : ℕ) (xs : List X) (i : ℕ) (x : X) (whole : Option Fault) →
    i < length xs → x ≡ get_or xs i x → first (found_from find n (drop i xs)) ≡ whole → None ≡ first (find n x) → first (found_from find (n + 1) (drop (i + 1) xs)) ≡ whole
numbered_next find n xs i x whole within is left here =
    sym (ap (λ ys. first (found_from find n ys)) (here_then xs i x within is) ∙ first-found_from find n x (drop (i + 1) xs)
    ∙ none_or (first (find n x)) (first (found_from find (n + 1) (drop (i + 1) xs))) (sym here)) ∙ left

-- Each item after those before it.

pub after_here : {X : Type 0} (find : List X → X → List Fault) (xs before : List X) (i : ℕ) (x : X) (whole : Option Fault) (fault : Fault) →
    i < length xs → x ≡ get_or xs i x → before ≡ take i xs → first (found_after find (take i xs) (drop i xs)) ≡ whole → Some fault ≡ first (find before x) → Some fault ≡ whole
after_here find xs before i x whole fault within is taken left here =
    sym (ap (λ ys. first (found_after find (take i xs) ys)) (here_then xs i x within is) ∙ first-found_after find (take i xs) x (drop (i + 1) xs)
    ∙ some_or (first (find (take i xs) x)) (first (found_after find (take i xs ++ x ∷ []) (drop (i + 1) xs))) fault (sym (here ∙ ap (λ ys. first (find ys x)) taken))) ∙ left

pub after_next : {X : Type 0} (find : List X → X → List Fault) (xs before : List X) (i : ℕ) (x : X) (whole : Option Fault) →
    i < length xs → x ≡ get_or xs i x → before ≡ take i xs → first (found_after find (take i xs) (drop i xs)) ≡ whole → None ≡ first (find before x) →
    first (found_after find (take (i + 1) xs) (drop (i + 1) xs)) ≡ whole
after_next find xs before i x whole within is taken left here =
    let more : take (i + 1) xs ≡ take i xs ++ x ∷ [] = (take_at_read xs i x within).1 ∙ ap (λ y. take i xs ++ y ∷ []) (sym is) in
    ap (λ ys. first (found_after find ys (drop (i + 1) xs))) more
    ∙ sym (ap (λ ys. first (found_after find (take i xs) ys)) (here_then xs i x within is) ∙ first-found_after find (take i xs) x (drop (i + 1) xs)
    ∙ none_or (first (find (take i xs) x)) (first (found_after find (take i xs ++ x ∷ []) (drop (i + 1) xs))) (sym (here ∙ ap (λ ys. first (find ys x)) taken))) ∙ left

-- The parts of each item, numbered from item to item.

pub parts_here : {X Y : Type 0} (find : ℕ → Y → List Fault) (parts : X → List Y) (n : ℕ) (xs : List X) (i : ℕ) (x : X) (own : List Y) (whole : Option Fault) (fault : Fault) →
    i < length xs → x ≡ get_or xs i x → own ≡ parts x → first (found_from find n (flat_map parts (drop i xs))) ≡ whole → Some fault ≡ first (found_from find n own) → Some fault ≡ whole
parts_here find parts n xs i x own whole fault within is are left here =
    sym (ap (λ ys. first (found_from find n (flat_map parts ys))) (here_then xs i x within is) ∙ first-found_from-append find n (parts x) (flat_map parts (drop (i + 1) xs))
    ∙ some_or (first (found_from find n (parts x))) (first (found_from find (n + length (parts x)) (flat_map parts (drop (i + 1) xs)))) fault (sym (here ∙ ap (λ ys. first (found_from find n ys)) are))) ∙ left

pub parts_next : {X Y : Type 0} (find : ℕ → Y → List Fault) (parts : X → List Y) (n m : ℕ) (xs : List X) (i : ℕ) (x : X) (own : List Y) (whole : Option Fault) →
    i < length xs → x ≡ get_or xs i x → own ≡ parts x → m ≡ n + length own → first (found_from find n (flat_map parts (drop i xs))) ≡ whole → None ≡ first (found_from find n own) →
    first (found_from find m (flat_map parts (drop (i + 1) xs))) ≡ whole
parts_next find parts n m xs i x own whole within is are next left here =
    ap (λ k. first (found_from find k (flat_map parts (drop (i + 1) xs)))) (next ∙ ap (λ ys. n + length ys) are)
    ∙ sym (ap (λ ys. first (found_from find n (flat_map parts ys))) (here_then xs i x within is) ∙ first-found_from-append find n (parts x) (flat_map parts (drop (i + 1) xs))
    ∙ none_or (first (found_from find n (parts x))) (first (found_from find (n + length (parts x)) (flat_map parts (drop (i + 1) xs)))) (sym (here ∙ ap (λ ys. first (found_from find n ys)) are))) ∙ left

-- The parts of each item, which count for so many.

pub counted_here : {X Y : Type 0} (size : Y → ℕ) (find : ℕ → Y → List Fault) (parts : X → List Y) (n : ℕ) (xs : List X) (i : ℕ) (x : X) (own : List Y) (whole : Option Fault) (fault : Fault) →
    i < length xs → x ≡ get_or xs i x → own ≡ parts x → first (counted size find n (flat_map parts (drop i xs))) ≡ whole → Some fault ≡ first (counted size find n own) → Some fault ≡ whole
counted_here size find parts n xs i x own whole fault within is are left here =
    sym (ap (λ ys. first (counted size find n (flat_map parts ys))) (here_then xs i x within is) ∙ first-counted-append size find n (parts x) (flat_map parts (drop (i + 1) xs))
    ∙ some_or (first (counted size find n (parts x))) (first (counted size find (n + total size (parts x)) (flat_map parts (drop (i + 1) xs)))) fault (sym (here ∙ ap (λ ys. first (counted size find n ys)) are))) ∙ left

pub counted_next : {X Y : Type 0} (size : Y → ℕ) (find : ℕ → Y → List Fault) (parts : X → List Y) (n m : ℕ) (xs : List X) (i : ℕ) (x : X) (own : List Y) (whole : Option Fault) →
    i < length xs → x ≡ get_or xs i x → own ≡ parts x → m ≡ n + total size own → first (counted size find n (flat_map parts (drop i xs))) ≡ whole → None ≡ first (counted size find n own) →
    first (counted size find m (flat_map parts (drop (i + 1) xs))) ≡ whole
counted_next size find parts n m xs i x own whole within is are next left here =
    ap (λ k. first (counted size find k (flat_map parts (drop (i + 1) xs)))) (next ∙ ap (λ ys. n + total size ys) are)
    ∙ sym (ap (λ ys. first (counted size find n (flat_map parts ys))) (here_then xs i x within is) ∙ first-counted-append size find n (parts x) (flat_map parts (drop (i + 1) xs))
    ∙ none_or (first (counted size find n (parts x))) (first (counted size find (n + total size (parts x)) (flat_map parts (drop (i + 1) xs)))) (sym (here ∙ ap (λ ys. first (counted size find n ys)) are))) ∙ left

-- one more is made of an item that is read
pub made_read : {X Y : Type 0} (f : X → Y) (out : List Y) (xs : List X) (i : ℕ) (x : X) (whole : List Y) →
    slice_get xs i ≡ Some x → out ++ map f (drop i xs) ≡ whole → (out ++ f x ∷ []) ++ map f (drop (i + 1) xs) ≡ whole
made_read f out xs i x whole at left =
    append_assoc out (f x ∷ []) (map f (drop (i + 1) xs)) ∙ sym (ap (λ ys. out ++ map f ys) (read_then xs i x at)) ∙ left

-- the fault of a list by that of its first item
pub ruleset steps = (first-found_from, first-found_after, first-flat_map)

pub ruleset joined = (first-append)
