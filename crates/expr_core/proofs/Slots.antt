-- An expression's value depends on the slots that stand in it, and a slot has what was put in it.
use Rattle.std.proofs.Common.{◌≡◌, ℕ, zero, suc, nat_eq, if◌then◌else◌, inl, inr, Option, List, [], ◌∷◌, map, Contains, All, refl, sym, ap, ap₂, ◌∙◌, subst, arith}
use Rattle.std.specs.List.{flat_map}
use Rattle.std.proofs.lemmas.Bool.{cases_eq, cond-false, eq-eqb, ne_eqb}
use Rattle.std.proofs.lemmas.List.Elements.{All-head, All-tail, Contains-append_left, Contains-append_right}
use Rattle.sig_core.specs.declared.value.Value.{Value}
use Rattle.expr_core.specs.declared.expr.Expr.{Expr}
use Rattle.expr_core.specs.Expressions.{value_over, slots_in, operation, look}
use Rattle.expr_core.specs.Laws.{SlotsKeepValues}
use Rattle.expr_core.proofs.Equations.{over-Slot, over-Lit, over-Apply, slots-Slot, slots-Apply}
use Rattle.expr_core.proofs.Induction.{by_operands}

same_next : (i j : ℕ) → nat_eq i j ≡ nat_eq (suc i) (suc j)
same_next i j = elim (cases_eq i j) [
  | inl e ↦ eq-eqb i j e ∙ sym (eq-eqb (suc i) (suc j) (omega arith))
  | inr ne ↦ ne_eqb i j ne ∙ sym (ne_eqb (suc i) (suc j) (λ e. ne (omega arith)))
]

abbrev Same : (ℕ → Option Value) → (ℕ → Option Value) → List ℕ → Type 0
Same look look' slots = (i : ℕ) → Contains slots i → look i ≡ look' i

abbrev OnSlots : Expr → Type 0
OnSlots e = (s s' : ℕ → Option Value) → Same s s' (slots_in e) → value_over s e ≡ value_over s' e

same_values : (s s' : ℕ → Option Value) (kids : List Expr) → All OnSlots kids → Same s s' (flat_map (λ is. is) (map slots_in kids)) → map (value_over s) kids ≡ map (value_over s') kids
same_values s s' [] all h = refl
same_values s s' (k ∷ kids) all h =
    let rest = flat_map (λ is. is) (map slots_in kids) in
    ap₂ (λ x xs. x ∷ xs) (All-head OnSlots k kids all s s' (λ i c. h i (Contains-append_left (slots_in k) rest i c)))
    (same_values s s' kids (All-tail OnSlots k kids all) (λ i c. h i (Contains-append_right (slots_in k) rest i c)))

pub on_slots : (e : Expr) → OnSlots e
on_slots = by_operands OnSlots
    (λ i s s' h. over-Slot s i ∙ h i (subst (λ l. Contains l i) (sym (slots-Slot i)) (0, omega arith, refl)) ∙ sym (over-Slot s' i))
    (λ v s s' h. over-Lit s v ∙ sym (over-Lit s' v))
    (λ op kids all s s' h. over-Apply s op kids ∙ ap (operation op) (same_values s s' kids all (subst (Same s s') (slots-Apply op kids) h)) ∙ sym (over-Apply s' op kids))

-- a slot before the place, the place itself, and one after it
pub slots_keep_values : SlotsKeepValues
slots_keep_values [] i j v within = absurd (omega arith)
slots_keep_values (o ∷ slots) zero zero v within = refl
slots_keep_values (o ∷ slots) zero (suc j) v within = sym (cond-false (nat_eq zero (suc j)) v (look slots j) (ne_eqb zero (suc j) (λ e. omega arith)))
slots_keep_values (o ∷ slots) (suc i) zero v within = sym (cond-false (nat_eq (suc i) zero) v (look (o ∷ slots) zero) (ne_eqb (suc i) zero (λ e. omega arith)))
slots_keep_values (o ∷ slots) (suc i) (suc j) v within =
    slots_keep_values slots i j v (omega arith) ∙ ap (λ b. if b then v else look slots j) (same_next i j)
