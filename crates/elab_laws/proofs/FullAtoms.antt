-- Each operator in the atoms of functions has as many operands as it takes, where their command is of right shape and nests at
-- most 200 lists.
use Rattle.std.proofs.Common.{◌≡◌, ◌≤◌, ℕ, suc, Bool, true, false, List, [], ◌∷◌, map, length, slice_get, Option, Some, None, is_some, refl, sym, ap, ap₂, subst, ◌∙◌, arith}
use Rattle.std.specs.Prelude.{All, ◌&&◌, ◌||◌, not, codes, unwrap_or, if◌then◌else◌}
use Rattle.std.specs.List.{list_all}
use Rattle.std.specs.Option.{option_map_or}
use Rattle.std.proofs.lemmas.List.{length-map}
use Rattle.std.proofs.lemmas.List.Elements.{All-cons, All-head, All-nil, All-tail}
use Rattle.sig_core.specs.Names.{same_name, is_reserved}
use Rattle.sexpr_core.specs.declared.form.Atom.{Atom}
use Rattle.sexpr_core.specs.declared.form.Sexpr.{Sexpr}
use Rattle.sexpr_core.specs.declared.form.Sexpr as sexpr
use Rattle.sexpr_core.specs.Access.{items_of, symbol_of, parts_of}
use Rattle.sexpr_core.specs.Sizes.{nesting}
use Rattle.expr_core.specs.declared.expr.Op.{Op}
use Rattle.expr_core.specs.Sorts.{takes}
use Rattle.syntax_core.specs.declared.commands.Head.TheVariants as head
use Rattle.syntax_core.specs.declared.roles.Due.TheVariants.{One}
use Rattle.syntax_core.specs.declared.roles.Role.TheVariants as role
use Rattle.syntax_core.specs.declared.syntax.Application.{Application}
use Rattle.syntax_core.specs.declared.syntax.Case.{Case}
use Rattle.syntax_core.specs.declared.syntax.Exp.{Exp}
use Rattle.syntax_core.specs.declared.syntax.Exp as exp
use Rattle.syntax_core.specs.declared.syntax.Function.{Function}
use Rattle.syntax_core.specs.Roles.{after_symbol, are_headed, are_of_command, due_in, due_in_command, head_of, is_application, is_command, is_conjunct, name_at_front, operator_named}
use Rattle.syntax_core.specs.Shapes.{HasShape}
use Rattle.syntax_core.specs.Syntax.{application_of, begins, deepest, expression_of, expression_of_nest, functions_from, functions_of, negated_numeral}
use Rattle.name_core.specs.Bodies.{Branch}
use Rattle.name_core.specs.Faults.{first, shapes}
use Rattle.making_core.proofs.EachAtom.{HasAtoms, HasCases, HasRules, HoldsOfConjuncts, definitions_hold}
use Rattle.making_core.proofs.FormInduction.{by_items}
use Rattle.making_core.proofs.ShapedForms.{Nests, at_each, due_next, false_true, fit_of, has_its_shape, headed_list, item_shape, items_nest, nesting-List, parts-List, passes_parts, read-Keyword, read-List, read-Numeral, read-Symbol, read-Text, symbol_read}
use Rattle.elab_laws.proofs.SortLaws.{full-Apply, full-Negative, full-Numeral, full-Symbol, is_full}

-- Shapes.

-- Expressions have as many operands as their operators take.

abbrev IsFull : Exp → Type 0
IsFull e = is_full e ≡ true

takes_by : (o : Option Op) (n : ℕ) (r : Bool) → option_map_or (λ q. takes q n) o r ≡ true → option_map_or (λ q. takes q n) o true ≡ true
takes_by None n r h = refl
takes_by (Some q) n r h = h

each_full : (es : List Sexpr) → All (λ form. IsFull (expression_of form)) es → list_all (λ b. b) (map is_full (map expression_of es)) ≡ true
each_full [] h = refl
each_full (e ∷ es) h =
    ap₂ (λ a b. a && b) (All-head (λ form. IsFull (expression_of form)) e es h) (each_full es (All-tail (λ form. IsFull (expression_of form)) e es h))

application_full : (place : ℕ) (first : Sexpr) (others : List Sexpr) (name : List ℕ) → symbol_of first ≡ Some name → is_application name (length others) ≡ true →
    All (λ form. IsFull (expression_of form)) others → IsFull (expression_of_nest (record { place = place; items = map expression_of (first ∷ others) }))
application_full place first others name named full each = by (negated_numeral (map expression_of (first ∷ others)))
  where
    app : Application
    app = application_of place (map expression_of (first ∷ others))

    takes_all : option_map_or (λ q. takes q (length (map expression_of others))) (operator_named app.head.bytes) true ≡ true
    takes_all =
        ap (λ (n : ℕ). option_map_or (λ q. takes q n) (operator_named app.head.bytes) true) (length-map others expression_of)
        ∙ ap (λ (bytes : List ℕ). option_map_or (λ q. takes q (length others)) (operator_named bytes) true) (symbol_read first name place named)
        ∙ takes_by (operator_named name) (length others) (not (is_reserved name)) full

    by : (o : Option Atom) → IsFull (option_map_or (λ numeral. exp.Negative (record { place = place; numeral = numeral })) o (exp.Apply app))
    by (Some numeral) = full-Negative (record { place = place; numeral = numeral })
    by None = full-Apply app ∙ ap₂ (λ a b. a && b) takes_all (each_full others each)

shaped_full : (forms : List Sexpr) → ((k : ℕ) (item : Sexpr) → slice_get forms k ≡ Some item → HasShape (One role.Expression) item) →
    All (λ form. HasShape (One role.Expression) form → IsFull (expression_of form)) forms → All (λ form. IsFull (expression_of form)) forms
shaped_full [] shaped each = All-nil (λ form. IsFull (expression_of form))
shaped_full (f ∷ fs) shaped each =
    All-cons (λ form. IsFull (expression_of form)) f fs (All-head (λ form. HasShape (One role.Expression) form → IsFull (expression_of form)) f fs each (shaped 0 f refl))
    (shaped_full fs (λ k item at. shaped (suc k) item at) (All-tail (λ form. HasShape (One role.Expression) form → IsFull (expression_of form)) f fs each))

-- a list of a symbol that takes what stands after it
items_full : (place : ℕ) (items : List Sexpr) → are_headed role.Expression items ≡ true → ((k : ℕ) (item : Sexpr) → slice_get items k ≡ Some item → HasShape (after_symbol role.Expression k) item) →
    All (λ form. HasShape (One role.Expression) form → IsFull (expression_of form)) items → IsFull (expression_of_nest (record { place = place; items = map expression_of items }))
items_full place [] headed shaped each = absurd (false_true headed)
items_full place (first ∷ others) headed shaped each = by (symbol_of first) refl headed (fit_of (shaped 0 first refl))
  where
    full : All (λ form. IsFull (expression_of form)) others
    full = shaped_full others (λ k item at. subst (λ d. HasShape d item) (due_next role.Expression k) (shaped (suc k) item at))
        (All-tail (λ form. HasShape (One role.Expression) form → IsFull (expression_of form)) first others each)

    by : (o : Option (List ℕ)) → symbol_of first ≡ o → option_map_or (λ name. is_application name (length others)) o true ≡ true → is_some o ≡ true →
        IsFull (expression_of_nest (record { place = place; items = map expression_of (first ∷ others) }))
    by None is takes_all there = absurd (false_true there)
    by (Some name) is takes_all there = application_full place first others name is takes_all full

full_exp : (form : Sexpr) → HasShape (One role.Expression) form → IsFull (expression_of form)
full_exp = by_items (λ form. HasShape (One role.Expression) form → IsFull (expression_of form))
    (λ a shape. subst IsFull (sym (read-Symbol a)) (full-Symbol a))
    (λ a shape. subst IsFull (sym (read-Numeral a)) (full-Numeral a))
    (λ a shape. subst IsFull (sym (read-Text a)) (full-Symbol a))
    (λ a shape. subst IsFull (sym (read-Keyword a)) (full-Symbol a))
    (λ n each shape. subst IsFull (sym (read-List n))
    (items_full n.place n.items (headed_list role.Expression n (fit_of shape)) (λ k item at. item_shape shape k item (ap (λ items. slice_get items k) (parts-List n) ∙ at)) each))

all_exps : (forms : List Sexpr) → All (λ form. HasShape (One role.Expression) form → IsFull (expression_of form)) forms
all_exps [] = All-nil (λ form. HasShape (One role.Expression) form → IsFull (expression_of form))
all_exps (f ∷ fs) = All-cons (λ form. HasShape (One role.Expression) form → IsFull (expression_of form)) f fs (full_exp f) (all_exps fs)

other_head : (items : List Sexpr) → are_headed role.Conjunct items ≡ true → same_name (codes "and") (name_at_front items) ≡ false → are_headed role.Expression items ≡ true
other_head [] headed other = headed
other_head (first ∷ others) headed other = by (symbol_of first) headed other
  where
    by : (o : Option (List ℕ)) → option_map_or (λ name. is_conjunct name (length others)) o true ≡ true → same_name (codes "and") (unwrap_or o []) ≡ false → option_map_or (λ name. is_application name (length others)) o true ≡ true
    by None h other = refl
    by (Some name) h other = sym (ap (λ b. b || is_application name (length others)) other) ∙ h

-- a conjunct that isn't an `and`
conjunct_full : (form : Sexpr) → HasShape (One role.Conjunct) form → begins (codes "and") form ≡ false → IsFull (expression_of form)
conjunct_full = by_items (λ form. HasShape (One role.Conjunct) form → begins (codes "and") form ≡ false → IsFull (expression_of form))
    (λ a shape other. subst IsFull (sym (read-Symbol a)) (full-Symbol a))
    (λ a shape other. subst IsFull (sym (read-Numeral a)) (full-Numeral a))
    (λ a shape other. subst IsFull (sym (read-Text a)) (full-Symbol a))
    (λ a shape other. subst IsFull (sym (read-Keyword a)) (full-Symbol a))
    (λ n each shape other.
    let front : same_name (codes "and") (name_at_front n.items) ≡ false = sym (ap (λ items. same_name (codes "and") (name_at_front items)) (parts-List n)) ∙ other in
    let due : (k : ℕ) → due_in (One role.Conjunct) (parts_of (sexpr.List n)) k ≡ after_symbol role.Expression k =
    λ k. ap (λ b. if b then after_symbol role.Conjunct k else after_symbol role.Expression k) other in
    subst IsFull (sym (read-List n))
    (items_full n.place n.items (other_head n.items (headed_list role.Conjunct n (fit_of shape)) front)
    (λ k item at. subst (λ d. HasShape d item) (due k) (item_shape shape k item (ap (λ items. slice_get items k) (parts-List n) ∙ at))) (all_exps n.items)))

token_full : (form : Sexpr) → nesting form ≤ 0 → IsFull (expression_of form)
token_full = by_items (λ form. nesting form ≤ 0 → IsFull (expression_of form))
    (λ a h. subst IsFull (sym (read-Symbol a)) (full-Symbol a))
    (λ a h. subst IsFull (sym (read-Numeral a)) (full-Numeral a))
    (λ a h. subst IsFull (sym (read-Text a)) (full-Symbol a))
    (λ a h. subst IsFull (sym (read-Keyword a)) (full-Symbol a))
    (λ n all h. let whole = nesting-List n in absurd (omega (arith, whole, h)))

-- The items of a form nest less deep than the form.

-- each operator has as many operands as it takes, in tokens and in conjuncts that are no `and`
full_conjuncts : HoldsOfConjuncts IsFull
full_conjuncts = record { tokens = token_full; others = conjunct_full }

-- the atoms of a branch
abbrev pub HasFullAtoms : Branch → Type 0
HasFullAtoms = HasAtoms IsFull

-- the atoms of a case's rules, and those of a function's
abbrev pub HasFullRules : Case → Type 0
HasFullRules = HasRules IsFull

abbrev pub HasFullCases : Function → Type 0
HasFullCases = HasCases IsFull

-- Commands.

by_parts : (items : List Sexpr) → is_command items ≡ true → head_of items ≡ Some head.DefineFunsRec → (form : Sexpr) →
    ((k : ℕ) (item : Sexpr) → slice_get items k ≡ Some item → HasShape (due_in_command (head_of items) k) item) → All (Nests deepest) items →
    All HasFullCases (functions_from (parts_of (unwrap_or (slice_get items 1) form)) (parts_of (unwrap_or (slice_get items 2) form)))
by_parts [] fit word form shaped nests = absurd (false_true fit)
by_parts (w ∷ others) fit word form shaped nests =
    by others (sym (ap (λ o. option_map_or (λ h. are_of_command h others) o false) word) ∙ fit) (λ k item at. subst (λ o. HasShape (due_in_command o k) item) word (shaped k item at)) nests
  where
    by : (others : List Sexpr) → are_of_command head.DefineFunsRec others ≡ true → ((k : ℕ) (item : Sexpr) → slice_get (w ∷ others) k ≡ Some item → HasShape (due_in_command (Some head.DefineFunsRec) k) item) →
        All (Nests deepest) (w ∷ others) → All HasFullCases (functions_from (parts_of (unwrap_or (slice_get (w ∷ others) 1) form)) (parts_of (unwrap_or (slice_get (w ∷ others) 2) form)))
    by [] fit shaped nests = absurd (false_true fit)
    by (a ∷ []) fit shaped nests = absurd (false_true fit)
    by (ds ∷ es ∷ []) fit shaped nests =
        definitions_hold IsFull full_conjuncts (parts_of ds) (parts_of es) (item_shape (shaped 2 es refl)) (items_nest deepest es (at_each (Nests deepest) (w ∷ ds ∷ es ∷ []) 2 es nests refl))
    by (a ∷ b ∷ c ∷ others) fit shaped nests = absurd (false_true fit)

-- each operator in the atoms of a command's functions has as many operands as it takes
pub functions_full : (form : Sexpr) → head_of (parts_of form) ≡ Some head.DefineFunsRec → first (shapes form) ≡ None → nesting form ≤ 200 → All HasFullCases (functions_of form)
functions_full form word none nests =
    let shape : HasShape (One role.Command) form = has_its_shape form none in
    by_parts (parts_of form) (passes_parts is_command (items_of form) (fit_of shape)) word form (item_shape shape) (items_nest deepest form nests)
