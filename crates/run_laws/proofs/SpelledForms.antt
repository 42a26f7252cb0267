-- The symbols in forms that can be spelled have bytes that may stand between bars.
use Rattle.std.proofs.Common.{◌≡◌, ℕ, Bool, true, false, Option, Some, None, is_some, slice_get, List, [], refl, sym, subst, rules}
use Rattle.std.specs.Prelude.{unwrap_or, if◌then◌else◌, All}
use Rattle.std.specs.Option.{option_map_or}
use Rattle.std.proofs.lemmas.List.Elements.{All-nil, All-cons}
use Rattle.std.proofs.lemmas.Option.{get_or_from_slice_get, slice_get_within}
use Rattle.sexpr_core.specs.declared.form.Atom.{Atom}
use Rattle.sexpr_core.specs.declared.form.Nest.{Nest}
use Rattle.sexpr_core.specs.declared.form.Sexpr as sexpr
use Rattle.sexpr_core.specs.declared.form.Sexpr.{Sexpr, the_lemmas}
use Rattle.sexpr_core.specs.Access.{symbol_of, parts_of, item_of}
use Rattle.sexpr_core.specs.Respelling.{AreSpellable}
use Rattle.sexpr_core.specs.Respelling as able
use Rattle.syntax_core.specs.Syntax.{atom_of, items_at, name_of}
use Rattle.answer_laws.specs.Names.{CanBeSpelled}

-- the name that the form is can be spelled, and so can its items
pub record IsNamed (form : Sexpr) : Type 0 where
  pub named : CanBeSpelled (unwrap_or (symbol_of form) [])
  pub depth : ℕ
  pub inside : AreSpellable depth (parts_of form)

name-Symbol : (a : Atom) → unwrap_or (symbol_of (sexpr.Symbol a)) [] ≡ a.bytes
name-Symbol a = search (rules, the_lemmas)

name-Numeral : (a : Atom) → unwrap_or (symbol_of (sexpr.Numeral a)) [] ≡ []
name-Numeral a = search (rules, the_lemmas)

name-Text : (a : Atom) → unwrap_or (symbol_of (sexpr.Text a)) [] ≡ []
name-Text a = search (rules, the_lemmas)

name-Keyword : (a : Atom) → unwrap_or (symbol_of (sexpr.Keyword a)) [] ≡ []
name-Keyword a = search (rules, the_lemmas)

name-List : (n : Nest) → unwrap_or (symbol_of (sexpr.List n)) [] ≡ []
name-List n = search (rules, the_lemmas)

parts-Symbol : (a : Atom) → parts_of (sexpr.Symbol a) ≡ []
parts-Symbol a = search (rules, the_lemmas)

parts-Numeral : (a : Atom) → parts_of (sexpr.Numeral a) ≡ []
parts-Numeral a = search (rules, the_lemmas)

parts-Text : (a : Atom) → parts_of (sexpr.Text a) ≡ []
parts-Text a = search (rules, the_lemmas)

parts-Keyword : (a : Atom) → parts_of (sexpr.Keyword a) ≡ []
parts-Keyword a = search (rules, the_lemmas)

parts-List : (n : Nest) → parts_of (sexpr.List n) ≡ n.items
parts-List n = search (rules, the_lemmas)

named_by : (form : Sexpr) (name : List ℕ) (depth : ℕ) (items : List Sexpr) → unwrap_or (symbol_of form) [] ≡ name → CanBeSpelled name → parts_of form ≡ items → AreSpellable depth items → IsNamed form
named_by form name depth items name_is spelled parts_are inside = record {
  named = subst CanBeSpelled (sym name_is) spelled;
  depth = depth;
  inside = subst (AreSpellable depth) (sym parts_are) inside;
}

pub each_named : {depth : ℕ} {forms : List Sexpr} → AreSpellable depth forms → All IsNamed forms
each_named (able.nothing depth) = All-nil IsNamed
each_named (able.symbol depth a forms h more) =
    All-cons IsNamed (sexpr.Symbol a) forms (named_by (sexpr.Symbol a) a.bytes 0 [] (name-Symbol a) h (parts-Symbol a) (able.nothing 0)) (each_named more)
each_named (able.numeral depth a forms h more) =
    All-cons IsNamed (sexpr.Numeral a) forms (named_by (sexpr.Numeral a) [] 0 [] (name-Numeral a) refl (parts-Numeral a) (able.nothing 0)) (each_named more)
each_named (able.string depth a forms h more) =
    All-cons IsNamed (sexpr.Text a) forms (named_by (sexpr.Text a) [] 0 [] (name-Text a) refl (parts-Text a) (able.nothing 0)) (each_named more)
each_named (able.keyword depth a forms h more) =
    All-cons IsNamed (sexpr.Keyword a) forms (named_by (sexpr.Keyword a) [] 0 [] (name-Keyword a) refl (parts-Keyword a) (able.nothing 0)) (each_named more)
each_named (able.list depth n forms inside more) =
    All-cons IsNamed (sexpr.List n) forms (named_by (sexpr.List n) [] depth n.items (name-List n) refl (parts-List n) inside) (each_named more)

pub parts_named : (form : Sexpr) → IsNamed form → All IsNamed (parts_of form)
parts_named form h = each_named h.inside

part_named : (form : Sexpr) (k : ℕ) (item : Sexpr) → IsNamed form → slice_get (parts_of form) k ≡ Some item → IsNamed item
part_named form k item h at = subst IsNamed (get_or_from_slice_get (parts_of form) k item item at) (parts_named form h k item (slice_get_within (parts_of form) k item at))

item_by : (form : Sexpr) (k : ℕ) (o : Option Sexpr) → IsNamed form → slice_get (parts_of form) k ≡ o → IsNamed (unwrap_or o form)
item_by form k None h at = h
item_by form k (Some item) h at = part_named form k item h at

pub item_named : (k : ℕ) (form : Sexpr) → IsNamed form → IsNamed (item_of k form)
item_named k form h = item_by form k (slice_get (parts_of form) k) h refl

items_by : (form : Sexpr) (k : ℕ) (o : Option Sexpr) → IsNamed form → slice_get (parts_of form) k ≡ o → All IsNamed (option_map_or parts_of o [])
items_by form k None h at = All-nil IsNamed
items_by form k (Some item) h at = parts_named item (part_named form k item h at)

pub items_named : (k : ℕ) (form : Sexpr) → IsNamed form → All IsNamed (items_at k form)
items_named k form h = items_by form k (slice_get (parts_of form) k) h refl

-- the name of `s` or `(s ..)`
pub name_spelled : (form : Sexpr) → IsNamed form → CanBeSpelled (name_of form).bytes
name_spelled form h = by (is_some (symbol_of form)) where
  by : (b : Bool) → CanBeSpelled (if b then atom_of form else atom_of (item_of 0 form)).bytes
  by true = h.named
  by false = (item_named 0 form h).named
