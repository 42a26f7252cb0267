-- Whether a name stands.
use Rattle.std.proofs.Common.{◌≡◌, ℕ, ◌<◌, Bool, true, false, List, [], length, get_or, Option, Some, None, is_some, refl, sym}
use Rattle.std.specs.Cmp.Lexicographic.{bytes_decides}
use Rattle.std.proofs.lemmas.List.Quantifiers.{position-Some}
use Rattle.sig_core.specs.Names.{place_of, same_name}
use Rattle.sig_core.proofs.NameLemmas.{other_name}

stands_at : (names : List (List ℕ)) (name : List ℕ) (k : ℕ) → k < length names → get_or names k [] ≡ name → (o : Option ℕ) → place_of names name ≡ o → true ≡ is_some o
stands_at names name k h e None p = absurd (other_name names name p k [] h e)
stands_at names name k h e (Some i) p = refl

pub stands : (names : List (List ℕ)) (name : List ℕ) (k : ℕ) → k < length names → get_or names k [] ≡ name → true ≡ is_some (place_of names name)
stands names name k h e = stands_at names name k h e (place_of names name) refl

stands_not_at : (names : List (List ℕ)) (name : List ℕ) → ((k : ℕ) → k < length names → get_or names k [] ≡ name → ⊥) → (o : Option ℕ) → place_of names name ≡ o → false ≡ is_some o
stands_not_at names name none None p = refl
stands_not_at names name none (Some i) p =
    let found = position-Some (same_name name) names i [] p in
    absurd (none i found.0 (sym ((bytes_decides name (get_or names i [])).0 found.1)))

pub stands_not : (names : List (List ℕ)) (name : List ℕ) → ((k : ℕ) → k < length names → get_or names k [] ≡ name → ⊥) → false ≡ is_some (place_of names name)
stands_not names name none = stands_not_at names name none (place_of names name) refl

pub absent : {X : Type 0} (o : Option X) → false ≡ is_some o → o ≡ None
absent None e = refl
absent (Some x) e = absurd cc

pub not_both : {b : Bool} → b ≡ false → b ≡ true → ⊥
not_both p q = cc
