-- Forms that are the same, places aside, have the same names, digits and items, places aside.
use Rattle.std.proofs.Common.{◌≡◌, ℕ, Option, Some, None, option_map, unwrap_or, slice_get, List, [], ◌∷◌, map, length, refl, sym, ap, subst, ◌∙◌, rules}
use Rattle.std.proofs.lemmas.List.{length-map}
use Rattle.sexpr_core.specs.declared.form.Nest.{Nest}
use Rattle.sexpr_core.specs.declared.form.Sexpr as sexpr
use Rattle.sexpr_core.specs.declared.form.Sexpr.{Sexpr, out-Sexpr, roll-Sexpr, the_lemmas}
use Rattle.sexpr_core.specs.declared.form.Sexpr.TheOpen.{Sexpr-F}
use Rattle.sexpr_core.specs.Access.{symbol_of, numeral_of, items_of, parts_of, item_of}
use Rattle.sexpr_core.specs.Respelling.{placeless}
use Rattle.sexpr_core.specs.Spelling.{atom}

-- the canonical forms, with 0 for each place

abbrev pub symbol : List ℕ → Sexpr
symbol name = sexpr.Symbol (atom 0 name)

abbrev pub numeral : List ℕ → Sexpr
numeral digits = sexpr.Numeral (atom 0 digits)

abbrev pub list : List Sexpr → Sexpr
list items = sexpr.List (record { place = 0; items = items })

pub symbol_of-symbol : (name : List ℕ) → symbol_of (symbol name) ≡ Some name
symbol_of-symbol name = search (rules, the_lemmas)

pub items_of-symbol : (name : List ℕ) → items_of (symbol name) ≡ None
items_of-symbol name = search (rules, the_lemmas)

pub numeral_of-symbol : (name : List ℕ) → numeral_of (symbol name) ≡ None
numeral_of-symbol name = search (rules, the_lemmas)

pub numeral_of-numeral : (digits : List ℕ) → numeral_of (numeral digits) ≡ Some digits
numeral_of-numeral digits = search (rules, the_lemmas)

pub numeral_of-list : (items : List Sexpr) → numeral_of (list items) ≡ None
numeral_of-list items = search (rules, the_lemmas)

pub symbol_of-list : (items : List Sexpr) → symbol_of (list items) ≡ None
symbol_of-list items = search (rules, the_lemmas)

pub items_of-list : (items : List Sexpr) → items_of (list items) ≡ Some items
items_of-list items = search (rules, the_lemmas)

rolled : (form : Sexpr) → roll-Sexpr (out-Sexpr form) ≡ form
rolled form = search (rules, the_lemmas)

symbol_in : (f : Sexpr-F Sexpr Nest) → symbol_of (placeless (roll-Sexpr f)) ≡ symbol_of (roll-Sexpr f)
symbol_in (Sexpr-F.Symbol a) = search (rules, the_lemmas)
symbol_in (Sexpr-F.Numeral a) = search (rules, the_lemmas)
symbol_in (Sexpr-F.Text a) = search (rules, the_lemmas)
symbol_in (Sexpr-F.Keyword a) = search (rules, the_lemmas)
symbol_in (Sexpr-F.List n) = search (rules, the_lemmas)

numeral_in : (f : Sexpr-F Sexpr Nest) → numeral_of (placeless (roll-Sexpr f)) ≡ numeral_of (roll-Sexpr f)
numeral_in (Sexpr-F.Symbol a) = search (rules, the_lemmas)
numeral_in (Sexpr-F.Numeral a) = search (rules, the_lemmas)
numeral_in (Sexpr-F.Text a) = search (rules, the_lemmas)
numeral_in (Sexpr-F.Keyword a) = search (rules, the_lemmas)
numeral_in (Sexpr-F.List n) = search (rules, the_lemmas)

items_in : (f : Sexpr-F Sexpr Nest) → items_of (placeless (roll-Sexpr f)) ≡ option_map (map placeless) (items_of (roll-Sexpr f))
items_in (Sexpr-F.Symbol a) = search (rules, the_lemmas)
items_in (Sexpr-F.Numeral a) = search (rules, the_lemmas)
items_in (Sexpr-F.Text a) = search (rules, the_lemmas)
items_in (Sexpr-F.Keyword a) = search (rules, the_lemmas)
items_in (Sexpr-F.List n) = search (rules, the_lemmas)

symbol_kept : (form : Sexpr) → symbol_of (placeless form) ≡ symbol_of form
symbol_kept form = subst (λ x. symbol_of (placeless x) ≡ symbol_of x) (rolled form) (symbol_in (out-Sexpr form))

numeral_kept : (form : Sexpr) → numeral_of (placeless form) ≡ numeral_of form
numeral_kept form = subst (λ x. numeral_of (placeless x) ≡ numeral_of x) (rolled form) (numeral_in (out-Sexpr form))

items_kept : (form : Sexpr) → items_of (placeless form) ≡ option_map (map placeless) (items_of form)
items_kept form = subst (λ x. items_of (placeless x) ≡ option_map (map placeless) (items_of x)) (rolled form) (items_in (out-Sexpr form))

-- the forms are the same, places aside
abbrev pub Same : Sexpr → Sexpr → Type 0
Same form other = placeless form ≡ placeless other

abbrev pub AreSame : List Sexpr → List Sexpr → Type 0
AreSame forms others = map placeless forms ≡ map placeless others

pub same_symbol : (form other : Sexpr) → Same form other → symbol_of form ≡ symbol_of other
same_symbol form other e = sym (symbol_kept form) ∙ ap symbol_of e ∙ symbol_kept other

pub same_numeral : (form other : Sexpr) → Same form other → numeral_of form ≡ numeral_of other
same_numeral form other e = sym (numeral_kept form) ∙ ap numeral_of e ∙ numeral_kept other

same_items : (form other : Sexpr) → Same form other → option_map (map placeless) (items_of form) ≡ option_map (map placeless) (items_of other)
same_items form other e = sym (items_kept form) ∙ ap items_of e ∙ items_kept other

-- a form that is a list, with its items
pub record IsList (form : Sexpr) (others : List Sexpr) : Type 0 where
  pub items : List Sexpr
  pub is : items_of form ≡ Some items
  pub same : AreSame items others

list_by : (form : Sexpr) (others : List Sexpr) (found : Option (List Sexpr)) → items_of form ≡ found → option_map (map placeless) found ≡ Some (map placeless others) → IsList form others
list_by form others None e same = absurd (cc)
list_by form others (Some items) e same = let inside : map placeless items ≡ map placeless others = cc in record { items = items; is = e; same = inside }

pub is_list : (form : Sexpr) (others : List Sexpr) → Same form (list others) → IsList form others
is_list form others e =
    list_by form others (items_of form) refl (same_items form (list others) e ∙ ap (option_map (map placeless)) (items_of-list others))

token_by : (found : Option (List Sexpr)) → option_map (map placeless) found ≡ None → found ≡ None
token_by None e = refl
token_by (Some items) e = absurd (cc)

-- a symbol has no items
pub no_items : (form : Sexpr) (name : List ℕ) → Same form (symbol name) → items_of form ≡ None
no_items form name e = token_by (items_of form) (same_items form (symbol name) e ∙ ap (option_map (map placeless)) (items_of-symbol name))

-- the first of some forms, and those after it
pub record Begins (forms : List Sexpr) (other : Sexpr) (others : List Sexpr) : Type 0 where
  pub head : Sexpr
  pub tail : List Sexpr
  pub is : forms ≡ head ∷ tail
  pub same_head : Same head other
  pub same_tail : AreSame tail others

pub begins : (forms : List Sexpr) (other : Sexpr) (others : List Sexpr) → AreSame forms (other ∷ others) → Begins forms other others
begins [] other others e = absurd (cc)
begins (form ∷ forms) other others e =
    let first : placeless form ≡ placeless other = cc in
    let later : map placeless forms ≡ map placeless others = cc in
    record { head = form; tail = forms; is = refl; same_head = first; same_tail = later }

pub ends : (forms : List Sexpr) → AreSame forms [] → forms ≡ []
ends [] e = refl
ends (form ∷ forms) e = absurd (cc)

pub parts_are : (form : Sexpr) (items : List Sexpr) → items_of form ≡ Some items → parts_of form ≡ items
parts_are form items e = ap (λ o. unwrap_or o []) e

pub no_parts : (form : Sexpr) → items_of form ≡ None → parts_of form ≡ []
no_parts form e = ap (λ o. unwrap_or o []) e

pub item_is : (form : Sexpr) (items : List Sexpr) (k : ℕ) (item : Sexpr) → parts_of form ≡ items → slice_get items k ≡ Some item → item_of k form ≡ item
item_is form items k item e at = ap (λ ps. unwrap_or (slice_get ps k) form) e ∙ ap (λ o. unwrap_or o form) at

pub same_length : (forms others : List Sexpr) → AreSame forms others → length forms ≡ length others
same_length forms others e = sym (length-map forms placeless) ∙ ap length e ∙ length-map others placeless
