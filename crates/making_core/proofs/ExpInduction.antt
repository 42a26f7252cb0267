-- Induction over expressions.
use Rattle.std.proofs.Common.{List, [], ◌∷◌, map, subst, sym}
use Rattle.std.specs.Prelude.{All}
use Rattle.std.proofs.lemmas.List.Elements.{All-nil, All-cons}
use Rattle.sexpr_core.specs.declared.form.Atom.{Atom}
use Rattle.syntax_core.specs.declared.syntax.Application.{Application, map-Application, roll-Application}
use Rattle.syntax_core.specs.declared.syntax.Negative.{Negative}
use Rattle.syntax_core.specs.declared.syntax.Exp.{Exp, map-Exp, roll-Exp}
use Rattle.syntax_core.specs.declared.syntax.Exp.TheVariants.{Symbol, Numeral, Negative as Negated, Apply, rolls-Symbol, rolls-Numeral, rolls-Negative, rolls-Apply}
use Rattle.syntax_core.specs.declared.syntax.Exp.TheOpen.{Exp-F, Application-F}
use Rattle.syntax_core.specs.declared.syntax.Exp.TheFolds.{ind-Exp}

pub each : {X : Type 0} (P : X → Type 0) → (es : List ((x : X) × P x)) → All P (map (λ e. e.0) es)
each P [] = All-nil P
each P (e ∷ es) = All-cons P e.0 (map (λ e. e.0) es) e.1 (each P es)

layer : (P : Exp → Type 0) → ((a : Atom) → P (Symbol a)) → ((a : Atom) → P (Numeral a)) → ((n : Negative) → P (Negated n))
    → ((app : Application) → All P app.args → P (Apply app))
    → (y : Exp-F ((e : Exp) × P e) ((app : Application) × All P app.args))
    → P (roll-Exp (map-Exp ((e : Exp) × P e) ((app : Application) × All P app.args) Exp Application (λ e. e.0) (λ app. app.0) y))
layer P symbol numeral negated apply (Exp-F.Symbol a) = subst P (sym (rolls-Symbol a)) (symbol a)
layer P symbol numeral negated apply (Exp-F.Numeral a) = subst P (sym (rolls-Numeral a)) (numeral a)
layer P symbol numeral negated apply (Exp-F.Negative n) = subst P (sym (rolls-Negative n)) (negated n)
layer P symbol numeral negated apply (Exp-F.Apply app) = subst P (sym (rolls-Apply app.0)) (apply app.0 app.1)

inside : (P : Exp → Type 0) → (y : Application-F ((e : Exp) × P e) ((app : Application) × All P app.args))
    → All P (roll-Application (map-Application ((e : Exp) × P e) ((app : Application) × All P app.args) Exp Application (λ e. e.0) (λ app. app.0) y)).args
inside P y = each P y.args

-- P holds of each expression, if it holds of an application where it holds of its arguments
pub by_arguments : (P : Exp → Type 0) → ((a : Atom) → P (Symbol a)) → ((a : Atom) → P (Numeral a)) → ((n : Negative) → P (Negated n))
    → ((app : Application) → All P app.args → P (Apply app)) → (e : Exp) → P e
by_arguments P symbol numeral negated apply =
    ind-Exp P (λ app. All P app.args)
    (λ x y is. subst (λ z. P (roll-Exp z)) is (layer P symbol numeral negated apply y))
    (λ x y is. subst (λ z. All P (roll-Application z).args) is (inside P y))
