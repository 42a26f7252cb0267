-- Induction over expressions.
use Rattle.std.proofs.Common.{ℕ, List, [], ◌∷◌, map, All, subst, sym}
use Rattle.std.proofs.lemmas.List.Elements.{All-nil, All-cons}
use Rattle.sig_core.specs.declared.value.Value.{Value}
use Rattle.expr_core.specs.declared.expr.Op.{Op}
use Rattle.expr_core.specs.declared.expr.Expr.{Expr, map-Expr, roll-Expr}
use Rattle.expr_core.specs.declared.expr.Expr.TheVariants.{Slot, Lit, Apply, rolls-Slot, rolls-Lit, rolls-Apply}
use Rattle.expr_core.specs.declared.expr.Expr.TheOpen.{Expr-F}
use Rattle.expr_core.specs.declared.expr.Expr.TheFolds.{ind-Expr}

each : {X : Type 0} (P : X → Type 0) → (es : List ((x : X) × P x)) → All P (map (λ e. e.0) es)
each P [] = All-nil P
each P (e ∷ es) = All-cons P e.0 (map (λ e. e.0) es) e.1 (each P es)

layer : (P : Expr → Type 0) → ((i : ℕ) → P (Slot i)) → ((v : Value) → P (Lit v)) → ((op : Op) (kids : List Expr) → All P kids → P (Apply op kids))
    → (y : Expr-F ((e : Expr) × P e)) → P (roll-Expr (map-Expr ((e : Expr) × P e) Expr (λ e. e.0) y))
layer P slot lit apply (Expr-F.Slot i) = subst P (sym (rolls-Slot i)) (slot i)
layer P slot lit apply (Expr-F.Lit v) = subst P (sym (rolls-Lit v)) (lit v)
layer P slot lit apply (Expr-F.Apply op kids) = subst P (sym (rolls-Apply op (map (λ e. e.0) kids))) (apply op (map (λ e. e.0) kids) (each P kids))

-- P holds of each expression, if it holds of an operator's where it holds of the operands
pub by_operands : (P : Expr → Type 0) → ((i : ℕ) → P (Slot i)) → ((v : Value) → P (Lit v)) → ((op : Op) (kids : List Expr) → All P kids → P (Apply op kids)) → (e : Expr) → P e
by_operands P slot lit apply = ind-Expr P (λ x y is. subst (λ z. P (roll-Expr z)) is (layer P slot lit apply y))
