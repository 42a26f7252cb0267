-- What stands at the head of an expression, and the slots that it uses.
use Rattle.std.proofs.Common.{◌≡◌, ℕ, Bool, true, false, ◌&&◌, Some, None, List, [], ◌∷◌, map, refl, ap, ◌∙◌, rules}
use Rattle.std.specs.List.{list_all, flat_map}
use Rattle.std.proofs.lemmas.List.Folds.{list_all-append}
use Rattle.sig_core.specs.declared.value.Value.{Value}
use Rattle.expr_core.specs.declared.expr.Op.{Op}
use Rattle.expr_core.specs.declared.expr.Expr.{Expr, out-Expr, the_lemmas}
use Rattle.expr_core.specs.declared.expr.Expr.TheVariants.{Slot, Lit, Apply}
use Rattle.expr_core.specs.Expressions.{slots_in}
use Rattle.expr_core.proofs.Equations.{slots-Slot, slots-Lit, slots-Apply}
use Rattle.rule_core.specs.Flow.{bare_slot, is_in, is_known}

pub bare-Slot : (i : ℕ) → bare_slot (out-Expr (Slot i)) ≡ Some i
bare-Slot i = search (rules, the_lemmas)

pub bare-Lit : (v : Value) → bare_slot (out-Expr (Lit v)) ≡ None
bare-Lit v = search (rules, the_lemmas)

pub bare-Apply : (op : Op) (kids : List Expr) → bare_slot (out-Expr (Apply op kids)) ≡ None
bare-Apply op kids = search (rules, the_lemmas)

and_true : (b : Bool) → (b && true) ≡ b
and_true true = refl
and_true false = refl

pub known-Slot : (known : List ℕ) (i : ℕ) → is_known known (Slot i) ≡ is_in known i
known-Slot known i = ap (list_all (is_in known)) (slots-Slot i) ∙ and_true (is_in known i)

pub known-Lit : (known : List ℕ) (v : Value) → is_known known (Lit v) ≡ true
known-Lit known v = ap (list_all (is_in known)) (slots-Lit v)

each_known : (known : List ℕ) (kids : List Expr) → list_all (is_in known) (flat_map (λ is. is) (map slots_in kids)) ≡ list_all (is_known known) kids
each_known known [] = refl
each_known known (kid ∷ kids) = list_all-append (is_in known) (slots_in kid) (flat_map (λ is. is) (map slots_in kids)) ∙ ap (λ b. is_known known kid && b) (each_known known kids)

pub known-Apply : (known : List ℕ) (op : Op) (kids : List Expr) → is_known known (Apply op kids) ≡ list_all (is_known known) kids
known-Apply known op kids = ap (list_all (is_in known)) (slots-Apply op kids) ∙ each_known known kids

pub ruleset expr_equations = (bare-Slot, bare-Lit, bare-Apply, known-Slot, known-Lit, known-Apply)
