-- Arguments that are given bare variables.
use Rattle.std.proofs.Common.{◌≡◌, ℕ, Bool, true, false, ◌&&◌, Option, Some, None, List, [], ◌∷◌, map, nat_eq, refl, ap, ap₂, ◌∙◌, eqb-true, eq-eqb}
use Rattle.std.specs.Option.{option_map_or}
use lib.Pointwise.{pointwise}
use Rattle.expr_core.specs.declared.expr.Expr.{Expr, out-Expr}
use Rattle.expr_core.specs.declared.expr.Expr.TheVariants.{Slot}
use Rattle.rule_core.specs.Flow.{bare_slot, names_slot}
use Rattle.rule_core.proofs.Equations.{bare-Slot}
use Rattle.rule_core.proofs.Determined.{bare_is}

found : (o : Option ℕ) (s : ℕ) → option_map_or (λ k. nat_eq k s) o false ≡ true → o ≡ Some s
found (Some k) s h = ap Some (eqb-true k s h)
found None s h = absurd (cc)

both : (a b : Bool) → a && b ≡ true → (a ≡ true) × (b ≡ true)
both true b h = (refl, h)
both false b h = absurd (cc)

is_named : (e : Expr) (s : ℕ) → names_slot e s ≡ true → e ≡ Slot s
is_named e s h = bare_is e s (found (bare_slot (out-Expr e)) s h)

names : (e : Expr) (s : ℕ) → e ≡ Slot s → names_slot e s ≡ true
names e s h = ap (λ (x : Expr). names_slot x s) h ∙ ap (λ (o : Option ℕ). option_map_or (λ k. nat_eq k s) o false) (bare-Slot s) ∙ eq-eqb s s refl

pub all_named : (es : List Expr) (slots : List ℕ) → pointwise names_slot es slots ≡ true → es ≡ map Slot slots
all_named [] [] h = refl
all_named [] (s ∷ slots) h = absurd (cc)
all_named (e ∷ es) [] h = absurd (cc)
all_named (e ∷ es) (s ∷ slots) h =
    let p = both (names_slot e s) (pointwise names_slot es slots) h in
    ap₂ (λ x xs. x ∷ xs) (is_named e s p.0) (all_named es slots p.1)

pub all_names : (slots : List ℕ) → pointwise names_slot (map Slot slots) slots ≡ true
all_names [] = refl
all_names (s ∷ slots) = ap₂ (λ a b. a && b) (names (Slot s) s refl) (all_names slots)
