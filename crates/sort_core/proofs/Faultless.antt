-- What follows where lists of faults are empty.
use Rattle.std.proofs.Common.{◌≡◌, ℕ, Bool, true, false, Option, Some, None, List, [], ◌∷◌, ◌++◌, refl, sym, ◌∙◌, arith}
use Rattle.std.specs.Prelude.{not, All}
use Rattle.std.specs.List.{flat_map}
use Rattle.std.specs.Option.{option_or}
use Rattle.std.proofs.lemmas.List.Elements.{All-nil, All-cons}
use Rattle.syntax_core.specs.declared.fault.Fault.{Fault}
use Rattle.name_core.specs.Faults.{bad_if, first}
use Rattle.name_core.proofs.Firsts.{first-append, first-flat_map}

pub none_both : (a b : Option Fault) → option_or a b ≡ None → (a ≡ None) × (b ≡ None)
none_both None b e = (refl, e)
none_both (Some x) b e = absurd (grind arith)

pub none_parts : (xs ys : List Fault) → first (xs ++ ys) ≡ None → (first xs ≡ None) × (first ys ≡ None)
none_parts xs ys e = none_both (first xs) (first ys) (sym (first-append xs ys) ∙ e)

pub not_bad : (test : Bool) (reason place : ℕ) → first (bad_if test reason place) ≡ None → test ≡ false
not_bad true reason place e = absurd (grind arith)
not_bad false reason place e = refl

pub is_true : (b : Bool) → not b ≡ false → b ≡ true
is_true true e = refl
is_true false e = sym e

-- a test that is wanted, where its failure is a fault
pub holds : (test : Bool) (reason place : ℕ) → first (bad_if (not test) reason place) ≡ None → test ≡ true
holds test reason place e = is_true test (not_bad (not test) reason place e)

pub none_each : {X : Type 0} (find : X → List Fault) (xs : List X) → first (flat_map find xs) ≡ None → All (λ x. first (find x) ≡ None) xs
none_each find [] e = All-nil (λ x. first (find x) ≡ None)
none_each find (x ∷ xs) e =
    let both = none_both (first (find x)) (first (flat_map find xs)) (sym (first-flat_map find x xs) ∙ e) in
    All-cons (λ x. first (find x) ≡ None) x xs both.0 (none_each find xs both.1)
