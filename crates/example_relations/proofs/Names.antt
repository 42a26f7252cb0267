-- Names that a test accepts.
use Rattle.std.proofs.Common.{◌≡◌, ℕ, Bool, true, false, not, ◌&&◌, Option, Some, None, is_none, List, [], ◌∷◌, ◌++◌, All, refl, sym, subst, arith, append_assoc, append-nil}
use Rattle.std.specs.List.{list_all}
use Rattle.std.proofs.lemmas.List.Elements.{All-cons, All-nil}
use Rattle.sig_core.specs.Names.{AreDistinct, is_reserved, place_of}
use Rattle.sig_core.proofs.NameLemmas.{AreDistinct-push}

pub both : (a b : Bool) → a && b ≡ true → (a ≡ true) × (b ≡ true)
both true b h = (refl, h)
both false b h = absurd cc

is_false : (b : Bool) → not b ≡ true → b ≡ false
is_false true e = absurd cc
is_false false e = refl

pub free_by_test : (names : List (List ℕ)) → list_all (λ name. not (is_reserved name)) names ≡ true → All (λ name. is_reserved name ≡ false) names
free_by_test [] e = All-nil (λ name. is_reserved name ≡ false)
free_by_test (name ∷ names) e =
    let p = both (not (is_reserved name)) (list_all (λ name. not (is_reserved name)) names) e in
    All-cons (λ name. is_reserved name ≡ false) name names (is_false (is_reserved name) p.0) (free_by_test names p.1)

-- no name stands among those before it
abbrev pub all_new : List (List ℕ) → List (List ℕ) → Bool
all_new seen [] = true
all_new seen (name ∷ names) = is_none (place_of seen name) && all_new (seen ++ name ∷ []) names

no_place : (o : Option ℕ) → is_none o ≡ true → o ≡ None
no_place None e = refl
no_place (Some k) e = absurd cc

distinct_from : (seen names : List (List ℕ)) → AreDistinct seen → all_new seen names ≡ true → AreDistinct (seen ++ names)
distinct_from seen [] apart e = subst AreDistinct (sym (append-nil seen)) apart
distinct_from seen (name ∷ names) apart e =
    let p = both (is_none (place_of seen name)) (all_new (seen ++ name ∷ []) names) e in
    subst AreDistinct (append_assoc seen (name ∷ []) names) (distinct_from (seen ++ name ∷ []) names (AreDistinct-push seen name (no_place (place_of seen name) p.0) apart) p.1)

pub distinct_by_test : (names : List (List ℕ)) → all_new [] names ≡ true → AreDistinct names
distinct_by_test names e = distinct_from [] names (λ i j d l m. absurd (omega arith)) e
