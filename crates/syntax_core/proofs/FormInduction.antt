-- Induction over forms.
use Rattle.std.proofs.Common.{List, [], ◌∷◌, map, All, subst, sym}
use Rattle.std.proofs.lemmas.List.Elements.{All-nil, All-cons}
use Rattle.sexpr_core.specs.declared.form.Atom.{Atom}
use Rattle.sexpr_core.specs.declared.form.Nest.{Nest}
use Rattle.sexpr_core.specs.declared.form.Sexpr.{Sexpr, map-Sexpr, roll-Sexpr}
use Rattle.sexpr_core.specs.declared.form.Sexpr as sexpr
use Rattle.sexpr_core.specs.declared.form.Sexpr.TheVariants.{rolls-Symbol, rolls-Numeral, rolls-Text, rolls-Keyword, rolls-List}
use Rattle.sexpr_core.specs.declared.form.Sexpr.TheOpen.{Sexpr-F}
use Rattle.sexpr_core.specs.declared.form.Sexpr.TheFolds.{ind-Sexpr}

each : {X : Type 0} (P : X → Type 0) → (es : List ((x : X) × P x)) → All P (map (λ e. e.0) es)
each P [] = All-nil P
each P (e ∷ es) = All-cons P e.0 (map (λ e. e.0) es) e.1 (each P es)

layer : (P : Sexpr → Type 0) → ((a : Atom) → P (sexpr.Symbol a)) → ((a : Atom) → P (sexpr.Numeral a)) → ((a : Atom) → P (sexpr.Text a)) → ((a : Atom) → P (sexpr.Keyword a)) →
    ((n : Nest) → All P n.items → P (sexpr.List n)) →
    (y : Sexpr-F ((e : Sexpr) × P e) ((n : Nest) × All P n.items)) →
    P (roll-Sexpr (map-Sexpr ((e : Sexpr) × P e) ((n : Nest) × All P n.items) Sexpr Nest (λ e. e.0) (λ e. e.0) y))
layer P symbol numeral text keyword list (Sexpr-F.Symbol a) = subst P (sym (rolls-Symbol a)) (symbol a)
layer P symbol numeral text keyword list (Sexpr-F.Numeral a) = subst P (sym (rolls-Numeral a)) (numeral a)
layer P symbol numeral text keyword list (Sexpr-F.Text a) = subst P (sym (rolls-Text a)) (text a)
layer P symbol numeral text keyword list (Sexpr-F.Keyword a) = subst P (sym (rolls-Keyword a)) (keyword a)
layer P symbol numeral text keyword list (Sexpr-F.List n) = subst P (sym (rolls-List n.0)) (list n.0 n.1)

-- P holds of each form, if it holds of each token, and of a list where it holds of the items
pub by_items : (P : Sexpr → Type 0) → ((a : Atom) → P (sexpr.Symbol a)) → ((a : Atom) → P (sexpr.Numeral a)) → ((a : Atom) → P (sexpr.Text a)) → ((a : Atom) → P (sexpr.Keyword a)) →
    ((n : Nest) → All P n.items → P (sexpr.List n)) → (form : Sexpr) → P form
by_items P symbol numeral text keyword list =
    ind-Sexpr P (λ n. All P n.items)
    (λ x y is. subst (λ z. P (roll-Sexpr z)) is (layer P symbol numeral text keyword list y))
    (λ x y is. subst (λ z. All P z.items) is (each P y.items))
