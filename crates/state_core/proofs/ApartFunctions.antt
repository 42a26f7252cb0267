-- Each `and` among the atoms of functions is taken apart. Other commands are read as no functions, or as faulty ones.
use Rattle.std.proofs.Common.{◌≡◌, ◌≤◌, ℕ, Bool, true, false, List, [], ◌∷◌, map, length, slice_get, Option, Some, None, is_some, All, refl, sym, ap, ◌∙◌, if◌then◌else◌, arith}
use Rattle.std.specs.Prelude.{not, nat_eq, codes, unwrap_or}
use Rattle.std.specs.List.{flat_map}
use Rattle.std.specs.Option.{option_map_or}
use Rattle.std.proofs.lemmas.List.Elements.{All-nil}
use Rattle.sig_core.specs.Names.{same_name}
use Rattle.sexpr_core.specs.declared.form.Nest.{Nest}
use Rattle.sexpr_core.specs.declared.form.Sexpr.{Sexpr, out-Sexpr}
use Rattle.sexpr_core.specs.declared.form.Sexpr.TheOpen.{Sexpr-F}
use Rattle.sexpr_core.specs.Access.{items_in, items_of, keyword_in, numeral_in, parts_of, item_of}
use Rattle.sexpr_core.specs.Sizes.{nesting}
use Rattle.syntax_core.specs.declared.commands.Head.{Head}
use Rattle.syntax_core.specs.declared.commands.Head.TheVariants as head
use Rattle.syntax_core.specs.declared.roles.Due.TheVariants.{One}
use Rattle.syntax_core.specs.declared.roles.Role.TheVariants as role
use Rattle.syntax_core.specs.declared.syntax.Function.{Function}
use Rattle.syntax_core.specs.Roles.{after_symbol, are_of_command, due_in_command, head_of, is_command, name_at_front}
use Rattle.syntax_core.specs.Shapes.{HasShape}
use Rattle.syntax_core.specs.Syntax.{deepest, function_of, functions_from, functions_of, pair_of}
use Rattle.name_core.specs.Faults.{first, shapes}
use Rattle.name_core.specs.Names.{term_pairs}
use Rattle.name_core.proofs.LimitFacts.{no_items}
use Rattle.sort_core.specs.Sorts.{declaration_faults}
use Rattle.making_core.proofs.Apart.{apart_conjuncts}
use Rattle.state_core.proofs.CaseNames.{HasApartCases}
use Rattle.making_core.proofs.Conjunctions.{IsApart}
use Rattle.making_core.proofs.EachAtom.{definitions_hold}
use Rattle.making_core.proofs.Fits.{none-left}
use Rattle.making_core.proofs.Fits as fits
use Rattle.making_core.proofs.ShapedForms.{Nests, at_each, false_true, fit_of, has_its_shape, item_shape, items_nest, list_item, passes_parts}

-- Commands of another word.

-- the declaration has no parameters
abbrev IsBare : Sexpr → Type 0
IsBare declaration = parts_of (item_of 1 declaration) ≡ []

-- a declaration without parameters is faulty
bare_fault : (d e : Sexpr) → IsBare d → first (declaration_faults (function_of d e)) ≡ None → ⊥
bare_fault d e bare none =
    let faulty = fits.passes (not (nat_eq (length (term_pairs (map pair_of (parts_of (item_of 1 d))))) 1)) 30 (function_of d e).declaration.place none in
    false_true (sym faulty ∙ ap (λ (forms : List Sexpr). not (nat_eq (length (term_pairs (map pair_of forms))) 1)) bare)

none_read : (declarations definitions : List Sexpr) → ((d : Sexpr) → slice_get declarations 0 ≡ Some d → IsBare d) →
    first (flat_map declaration_faults (functions_from declarations definitions)) ≡ None → All HasApartCases (functions_from declarations definitions)
none_read [] definitions bare none = All-nil HasApartCases
none_read (d ∷ ds) [] bare none = All-nil HasApartCases
none_read (d ∷ ds) (e ∷ es) bare none =
    absurd (bare_fault d e (bare d refl) (none-left (declaration_faults (function_of d e)) (flat_map declaration_faults (functions_from ds es)) none))

no_keyword_items : (x : Sexpr-F Sexpr Nest) → is_some (keyword_in x) ≡ true → unwrap_or (items_in x) [] ≡ []
no_keyword_items (Sexpr-F.Symbol a) h = refl
no_keyword_items (Sexpr-F.Numeral a) h = refl
no_keyword_items (Sexpr-F.Text a) h = refl
no_keyword_items (Sexpr-F.Keyword a) h = refl
no_keyword_items (Sexpr-F.List n) h = absurd (false_true h)

no_numeral_items : (x : Sexpr-F Sexpr Nest) → option_map_or (same_name (codes "0")) (numeral_in x) false ≡ true → unwrap_or (items_in x) [] ≡ []
no_numeral_items (Sexpr-F.Symbol a) h = refl
no_numeral_items (Sexpr-F.Numeral a) h = refl
no_numeral_items (Sexpr-F.Text a) h = refl
no_numeral_items (Sexpr-F.Keyword a) h = refl
no_numeral_items (Sexpr-F.List n) h = absurd (false_true h)

-- a symbol is no declaration with parameters
symbol_bare : (d : Sexpr) → HasShape (One role.Symbol) d → IsBare d
symbol_bare d shape =
    let none : parts_of d ≡ [] = no_items (out-Sexpr d) (fit_of shape) in
    ap (λ (parts : List Sexpr). parts_of (unwrap_or (slice_get parts 1) d)) none ∙ none

-- nor is the name of a type
type_bare : (d : Sexpr) → HasShape (One role.TypeName) d → IsBare d
type_bare d shape =
    let second = list_item 2 1 d (fit_of shape) (omega arith) in
    let zero_shape : HasShape (One role.Zero) second.0 = item_shape shape 1 second.0 second.1 in
    ap (λ o. parts_of (unwrap_or o d)) second.1 ∙ no_numeral_items (out-Sexpr second.0) (fit_of zero_shape)

no_first : (items : List Sexpr) → items ≡ [] → (d : Sexpr) → slice_get items 0 ≡ Some d → IsBare d
no_first [] is d at = absurd (cc)
no_first (x ∷ xs) is d at = absurd (cc)

-- an example begins with a symbol
example_bare : (e : Sexpr) → HasShape (One role.Example) e → (d : Sexpr) → slice_get (parts_of e) 0 ≡ Some d → IsBare d
example_bare e shape d at = symbol_bare d (by (same_name (codes "and") (name_at_front (parts_of e))) (item_shape shape 0 d at))
  where
    by : (b : Bool) → HasShape (if b then after_symbol role.Example 0 else after_symbol role.ExampleArgument 0) d → HasShape (One role.Symbol) d
    by true h = h
    by false h = h

-- Commands.

-- what the items of a command are read as
abbrev read : Sexpr → List Sexpr → List Function
read form items = functions_from (parts_of (unwrap_or (slice_get items 1) form)) (parts_of (unwrap_or (slice_get items 2) form))

abbrev AreDue : Head → List Sexpr → Type 0
AreDue h items = (k : ℕ) (item : Sexpr) → slice_get items k ≡ Some item → HasShape (due_in_command (Some h) k) item

by_head : (form w : Sexpr) (others : List Sexpr) (h : Head) → are_of_command h others ≡ true → AreDue h (w ∷ others) → All (Nests deepest) (w ∷ others) → parts_of form ≡ w ∷ others →
    first (flat_map declaration_faults (read form (w ∷ others))) ≡ None → All HasApartCases (read form (w ∷ others))
by_head form w (ds ∷ es ∷ []) head.DefineFunsRec fit shaped nests parts none =
    definitions_hold IsApart apart_conjuncts (parts_of ds) (parts_of es) (item_shape (shaped 2 es refl)) (items_nest deepest es (at_each (Nests deepest) (w ∷ ds ∷ es ∷ []) 2 es nests refl))
by_head form w [] head.DefineFunsRec fit shaped nests parts none = absurd (false_true fit)
by_head form w (a ∷ []) head.DefineFunsRec fit shaped nests parts none = absurd (false_true fit)
by_head form w (a ∷ b ∷ c ∷ others) head.DefineFunsRec fit shaped nests parts none = absurd (false_true fit)
by_head form w [] head.SetInfo fit shaped nests parts none = absurd (false_true fit)
by_head form w (key ∷ others) head.SetInfo fit shaped nests parts none =
    none_read (parts_of key) _ (no_first (parts_of key) (no_keyword_items (out-Sexpr key) (fit_of (shaped 1 key refl)))) none
by_head form w [] head.SynthFun fit shaped nests parts none = absurd (false_true fit)
by_head form w (name ∷ others) head.SynthFun fit shaped nests parts none =
    none_read (parts_of name) _ (no_first (parts_of name) (no_items (out-Sexpr name) (fit_of (shaped 1 name refl)))) none
by_head form w [] head.DeclareTermTypes fit shaped nests parts none = absurd (false_true fit)
by_head form w (types ∷ others) head.DeclareTermTypes fit shaped nests parts none =
    none_read (parts_of types) _ (λ d at. type_bare d (item_shape (shaped 1 types refl) 0 d at)) none
by_head form w [] head.Constraint fit shaped nests parts none = absurd (false_true fit)
by_head form w (example ∷ others) head.Constraint fit shaped nests parts none =
    none_read (parts_of example) _ (example_bare example (shaped 1 example refl)) none
by_head form w [] head.CheckSynth fit shaped nests parts none =
    none_read (parts_of form) _ (λ d at. symbol_bare d (shaped 0 d (sym (ap (λ items. slice_get items 0) parts) ∙ at))) none
by_head form w (a ∷ others) head.CheckSynth fit shaped nests parts none = absurd (false_true fit)

by_word : (form w : Sexpr) (others : List Sexpr) (o : Option Head) → option_map_or (λ h. are_of_command h others) o false ≡ true →
    ((k : ℕ) (item : Sexpr) → slice_get (w ∷ others) k ≡ Some item → HasShape (due_in_command o k) item) → All (Nests deepest) (w ∷ others) → parts_of form ≡ w ∷ others →
    first (flat_map declaration_faults (read form (w ∷ others))) ≡ None → All HasApartCases (read form (w ∷ others))
by_word form w others None fit shaped nests parts none = absurd (false_true fit)
by_word form w others (Some h) fit shaped nests parts none = by_head form w others h fit shaped nests parts none

by_parts : (form : Sexpr) (items : List Sexpr) → is_command items ≡ true → ((k : ℕ) (item : Sexpr) → slice_get items k ≡ Some item → HasShape (due_in_command (head_of items) k) item) →
    All (Nests deepest) items → parts_of form ≡ items → first (flat_map declaration_faults (read form items)) ≡ None → All HasApartCases (read form items)
by_parts form [] fit shaped nests parts none = absurd (false_true fit)
by_parts form (w ∷ others) fit shaped nests parts none = by_word form w others (head_of (w ∷ others)) fit shaped nests parts none

-- the functions of a command of right shape, each of which has a parameter that is a term
pub functions_apart : (form : Sexpr) → first (shapes form) ≡ None → nesting form ≤ 200 → first (flat_map declaration_faults (functions_of form)) ≡ None → All HasApartCases (functions_of form)
functions_apart form none nests faults =
    let shape : HasShape (One role.Command) form = has_its_shape form none in
    by_parts form (parts_of form) (passes_parts is_command (items_of form) (fit_of shape)) (item_shape shape) (items_nest deepest form nests) refl faults
