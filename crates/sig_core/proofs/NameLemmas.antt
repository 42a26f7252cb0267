-- The first place of a name, and names that stay distinct.
use Rattle.std.proofs.Common.{◌≡◌, ◌≢◌, ℕ, ◌+◌, ◌<◌, ◌≤◌, Bool, true, false, not, cond, List, [], ◌∷◌, ◌++◌, length, map, get_or, Some, None, refl, sym, ap, ◌∙◌, arith}
use Rattle.std.specs.Prelude.{nat_lt, ◌&&◌, AllPairs, position}
use Rattle.std.specs.List.{prefix_len, position_or_len, list_any}
use Rattle.std.specs.Cmp.Lexicographic.{bytes_decides}
use Rattle.std.proofs.Math.Bool.{true≢false}
use Rattle.std.proofs.lemmas.List.{length-map, length-append, get_or_append_left}
use Rattle.std.proofs.lemmas.List.Sums.{fails_before_first}
use Rattle.std.proofs.lemmas.List.Folds.{list_any_none}
use Rattle.std.proofs.lemmas.List.Elements.{All-from_get_or}
use Rattle.std.proofs.lemmas.List.Quantifiers.{all_pairs_push}
use Rattle.std.specs.List.{list_all}
use Rattle.std.specs.Char.{is_ascii_digit}
use Rattle.sig_core.specs.Names.{is_digit, is_symbol_byte, is_simple_symbol, same_name, place_of, AreDistinct}

prefix_len-map : {X Y : Type 0} (p : Y → Bool) (f : X → Y) (xs : List X) → prefix_len p (map f xs) ≡ prefix_len (λ x. p (f x)) xs
prefix_len-map p f [] = refl
prefix_len-map p f (x ∷ xs) = ap (λ n. cond (p (f x)) (1 + n) 0) (prefix_len-map p f xs)

-- the first place in a list that is made of another
pub position-map : {X Y : Type 0} (p : Y → Bool) (f : X → Y) (xs : List X) → position p (map f xs) ≡ position (λ x. p (f x)) xs
position-map p f xs =
    ap (λ n. cond (nat_lt n (length (map f xs))) (Some n) None) (prefix_len-map (λ y. not (p y)) f xs)
    ∙ ap (λ k. cond (nat_lt (position_or_len (λ x. p (f x)) xs) k) (Some (position_or_len (λ x. p (f x)) xs)) None) (length-map xs f)

past : (n k : ℕ) → cond (nat_lt n k) (Some n) None ≡ None → k ≤ n
past n k h = grind arith

-- where no place passes, each element fails
pub fails_everywhere : {X : Type 0} (p : X → Bool) (xs : List X) → position p xs ≡ None → (k : ℕ) (d : X) → k < length xs → p (get_or xs k d) ≡ false
fails_everywhere p xs h k d l =
    let all : length xs ≤ position_or_len p xs = past (position_or_len p xs) (length xs) h in
    fails_before_first p xs k d (omega arith)

pub none_passes : {X : Type 0} (p : X → Bool) (xs : List X) → position p xs ≡ None → list_any p xs ≡ false
none_passes p [] h = refl
none_passes p (x ∷ xs) h = list_any_none p (x ∷ xs) (All-from_get_or (λ y. p y ≡ false) (x ∷ xs) x (λ k l. fails_everywhere p (x ∷ xs) h k x l))

-- a name that does not stand is none of those that do
pub other_name : (names : List (List ℕ)) (name : List ℕ) → place_of names name ≡ None → (k : ℕ) (d : List ℕ) → k < length names → get_or names k d ≢ name
other_name names name h k d l e = true≢false (sym ((bytes_decides name (get_or names k d)).1 (sym e)) ∙ fails_everywhere (same_name name) names h k d l)

pub AreDistinct-push : (names : List (List ℕ)) (name : List ℕ) → place_of names name ≡ None → AreDistinct names → AreDistinct (names ++ name ∷ [])
AreDistinct-push names name h apart = all_pairs_push (λ a b. a ≢ b) names name apart (other_name names name h)

pub AllPairs-front : {X : Type 0} (R : X → X → Type 0) (xs ys zs : List X) → zs ≡ xs ++ ys → AllPairs R zs → AllPairs R xs
AllPairs-front R xs ys zs e h i j d l m =
    let there : j < length zs = omega (arith, ap length e, length-append xs ys) in
    let first : get_or zs i d ≡ get_or xs i d = ap (λ l. get_or l i d) e ∙ get_or_append_left xs ys d i (omega arith) in
    let second : get_or zs j d ≡ get_or xs j d = ap (λ l. get_or l j d) e ∙ get_or_append_left xs ys d j m in
    rw (← first, ← second) (h i j d l there)

-- a first byte that is no digit, and bytes of a simple symbol alone
pub spells : (name : List ℕ) (first : ℕ) (answer : Bool) → 0 < length name → is_ascii_digit (get_or name 0 first) ≡ false → answer ≡ list_all is_symbol_byte name → answer ≡ is_simple_symbol name
spells [] first answer l d e = absurd (omega arith)
spells (b ∷ bs) first answer l d e =
    let letter : is_digit b ≡ false = d in
    e ∙ sym (ap (λ digit. not digit && list_all is_symbol_byte (b ∷ bs)) letter)

pub spells_not : (name : List ℕ) (first : ℕ) → 0 < length name → is_ascii_digit (get_or name 0 first) ≡ true → false ≡ is_simple_symbol name
spells_not [] first l d = absurd (omega arith)
spells_not (b ∷ bs) first l d =
    let digit : is_digit b ≡ true = d in
    sym (ap (λ digit. not digit && list_all is_symbol_byte (b ∷ bs)) digit)
