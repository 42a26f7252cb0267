-- Induction over forms.
use Rattle.std.proofs.Common.{subst, sym}
use Rattle.std.specs.Prelude.{All}
use Rattle.sexpr_core.specs.declared.form.Atom.{Atom}
use Rattle.sexpr_core.specs.declared.form.Nest.{Nest, map-Nest, roll-Nest}
use Rattle.sexpr_core.specs.declared.form.Sexpr.{Sexpr, map-Sexpr, roll-Sexpr}
use Rattle.sexpr_core.specs.declared.form.Sexpr.TheVariants.{Symbol, Numeral, Text, Keyword, List, rolls-Symbol, rolls-Numeral, rolls-Text, rolls-Keyword, rolls-List}
use Rattle.sexpr_core.specs.declared.form.Sexpr.TheOpen.{Sexpr-F, Nest-F}
use Rattle.sexpr_core.specs.declared.form.Sexpr.TheFolds.{ind-Sexpr}
use Rattle.making_core.proofs.ExpInduction.{each}

layer : (P : Sexpr → Type 0) → ((a : Atom) → P (Symbol a)) → ((a : Atom) → P (Numeral a)) → ((a : Atom) → P (Text a)) → ((a : Atom) → P (Keyword a))
    → ((n : Nest) → All P n.items → P (List n))
    → (y : Sexpr-F ((e : Sexpr) × P e) ((n : Nest) × All P n.items))
    → P (roll-Sexpr (map-Sexpr ((e : Sexpr) × P e) ((n : Nest) × All P n.items) Sexpr Nest (λ e. e.0) (λ n. n.0) y))
layer P symbol numeral text keyword list (Sexpr-F.Symbol a) = subst P (sym (rolls-Symbol a)) (symbol a)
layer P symbol numeral text keyword list (Sexpr-F.Numeral a) = subst P (sym (rolls-Numeral a)) (numeral a)
layer P symbol numeral text keyword list (Sexpr-F.Text a) = subst P (sym (rolls-Text a)) (text a)
layer P symbol numeral text keyword list (Sexpr-F.Keyword a) = subst P (sym (rolls-Keyword a)) (keyword a)
layer P symbol numeral text keyword list (Sexpr-F.List n) = subst P (sym (rolls-List n.0)) (list n.0 n.1)

inside : (P : Sexpr → Type 0) → (y : Nest-F ((e : Sexpr) × P e) ((n : Nest) × All P n.items))
    → All P (roll-Nest (map-Nest ((e : Sexpr) × P e) ((n : Nest) × All P n.items) Sexpr Nest (λ e. e.0) (λ n. n.0) y)).items
inside P y = each P y.items

-- P holds of each form, if it holds of a list where it holds of its items
pub by_items : (P : Sexpr → Type 0) → ((a : Atom) → P (Symbol a)) → ((a : Atom) → P (Numeral a)) → ((a : Atom) → P (Text a)) → ((a : Atom) → P (Keyword a))
    → ((n : Nest) → All P n.items → P (List n)) → (form : Sexpr) → P form
by_items P symbol numeral text keyword list =
    ind-Sexpr P (λ n. All P n.items)
    (λ x y is. subst (λ z. P (roll-Sexpr z)) is (layer P symbol numeral text keyword list y))
    (λ x y is. subst (λ z. All P (roll-Nest z).items) is (inside P y))
