-- Which names are among joined ones.
use Rattle.std.proofs.Common.{◌≡◌, ◌+◌, ℕ, Bool, true, false, not, ◌&&◌, ◌||◌, nat_lt, cond, Option, Some, None, is_some, List, [], ◌∷◌, ◌++◌, filter, length, refl, sym, ap, ◌∙◌, arith}
use Rattle.std.proofs.lemmas.Bool.Decides.{nat_tests}
use Rattle.std.specs.Prelude.{codes}
use Rattle.std.specs.List.{list_any, position_or_len}
use Rattle.syntax_core.specs.declared.syntax.Pair.{Pair}
use Rattle.sig_core.specs.Names.{place_of, same_name}
use Rattle.name_core.specs.Names.{has, names_in, sort_names}

true_false : true ≡ false → ⊥
true_false h = cc

is_some-cond : (b : Bool) (k : ℕ) → is_some (cond b (Some k) None) ≡ b
is_some-cond true k = refl
is_some-cond false k = refl

nat_lt-cond : (b : Bool) (m n : ℕ) → nat_lt (cond (not b) (1 + m) 0) (n + 1) ≡ (b || nat_lt m n)
nat_lt-cond true m n = grind (arith, nat_tests)
nat_lt-cond false m n = grind (arith, nat_tests)

has-place : (names : List (List ℕ)) (name : List ℕ) → has names name ≡ nat_lt (position_or_len (same_name name) names) (length names)
has-place names name =
    is_some-cond (nat_lt (position_or_len (same_name name) names) (length names)) (position_or_len (same_name name) names)

pub has-nil : (name : List ℕ) → has [] name ≡ false
has-nil name = refl

pub has-cons : (first : List ℕ) (names : List (List ℕ)) (name : List ℕ) → has (first ∷ names) name ≡ (same_name name first || has names name)
has-cons first names name =
    let longer : length (first ∷ names) ≡ length names + 1 = omega arith in
    has-place (first ∷ names) name
    ∙ ap (λ n. nat_lt (cond (not (same_name name first)) (1 + position_or_len (same_name name) names) 0) n) longer
    ∙ nat_lt-cond (same_name name first) (position_or_len (same_name name) names) (length names)
    ∙ ap (λ b. same_name name first || b) (sym (has-place names name))

or-assoc : (a b c : Bool) → (a || (b || c)) ≡ ((a || b) || c)
or-assoc true b c = refl
or-assoc false b c = refl

pub has-append : (xs ys : List (List ℕ)) (name : List ℕ) → has (xs ++ ys) name ≡ (has xs name || has ys name)
has-append [] ys name = refl
has-append (x ∷ xs) ys name =
    has-cons x (xs ++ ys) name ∙ ap (λ b. same_name name x || b) (has-append xs ys name)
    ∙ or-assoc (same_name name x) (has xs name) (has ys name) ∙ ap (λ b. b || has ys name) (sym (has-cons x xs name))

pub ruleset havings = (has-append, has-cons, has-nil)

-- a name that none has stands nowhere
none_at : (o : Option ℕ) → is_some o ≡ false → o ≡ None
none_at None h = refl
none_at (Some k) h = absurd (true_false h)

pub place-none : (names : List (List ℕ)) (name : List ℕ) → has names name ≡ false → place_of names name ≡ None
place-none names name h = none_at (place_of names name) h

-- names joined to others
pub ruleset joints = (has-append)

or-false : (a b : Bool) → (a || (b || false)) ≡ (a || b)
or-false true b = refl
or-false false true = refl
or-false false false = refl

pub has-sorts : (name : List ℕ) → has sort_names name ≡ (same_name name (codes "Int") || same_name name (codes "Bool"))
has-sorts name =
    has-cons (codes "Int") (codes "Bool" ∷ []) name
    ∙ ap (λ b. same_name name (codes "Int") || b) (has-cons (codes "Bool") [] name)
    ∙ or-false (same_name name (codes "Int")) (same_name name (codes "Bool"))

pub ruleset sorts = (has-sorts)

named-cond : (b : Bool) (p : Pair → Bool) (pair : Pair) (pairs : List Pair) (name : List ℕ) →
    has (names_in (cond b (pair ∷ filter p pairs) (filter p pairs))) name ≡ ((b && same_name name pair.name.bytes) || has (names_in (filter p pairs)) name)
named-cond true p pair pairs name = has-cons pair.name.bytes (names_in (filter p pairs)) name
named-cond false p pair pairs name = refl

-- a name of the pairs that pass a test
pub has-filter : (p : Pair → Bool) (pairs : List Pair) (name : List ℕ) →
    has (names_in (filter p pairs)) name ≡ list_any (λ pair. p pair && same_name name pair.name.bytes) pairs
has-filter p [] name = refl
has-filter p (pair ∷ pairs) name =
    named-cond (p pair) p pair pairs name ∙ ap (λ b. (p pair && same_name name pair.name.bytes) || b) (has-filter p pairs name)
