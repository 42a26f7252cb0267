-- Each `and` among the atoms of rules is taken apart, where a command is of right shape and its lists nest at most 200 deep.
use Rattle.std.proofs.Common.{◌≡◌, ◌≤◌, ℕ, true, false, List, [], ◌∷◌, map, slice_get, Option, Some, None, is_some, refl, sym, ap, subst, ◌∙◌, if◌then◌else◌, rules, arith}
use Rattle.std.specs.Prelude.{◌≢◌, codes, unwrap_or}
use Rattle.std.specs.Option.{option_map_or}
use Rattle.std.specs.Cmp.Lexicographic.{bytes_decides}
use Rattle.sig_core.specs.Names.{same_name}
use Rattle.expr_core.specs.declared.expr.Op.TheVariants as op
use Rattle.expr_core.proofs.Naming.{name_of_found}
use Rattle.sexpr_core.specs.declared.form.Atom.{Atom}
use Rattle.sexpr_core.specs.declared.form.Sexpr.{Sexpr}
use Rattle.sexpr_core.specs.Access.{symbol_of, parts_of}
use Rattle.sexpr_core.specs.Sizes.{nesting}
use Rattle.syntax_core.specs.declared.roles.Due.TheVariants.{One}
use Rattle.syntax_core.specs.declared.roles.Role.TheVariants as role
use Rattle.syntax_core.specs.declared.syntax.Application.{Application}
use Rattle.syntax_core.specs.declared.syntax.Exp.{Exp, out-Exp}
use Rattle.syntax_core.specs.declared.syntax.Exp.{the_lemmas as exp_lemmas}
use Rattle.syntax_core.specs.declared.syntax.Exp as exp
use Rattle.syntax_core.specs.declared.syntax.Exp.TheOpen.{Exp-F}
use Rattle.syntax_core.specs.declared.syntax.Negative.{Negative}
use Rattle.syntax_core.specs.Roles.{due_in_conjunct, name_at_front, operator_named}
use Rattle.syntax_core.specs.Shapes.{HasShape}
use Rattle.syntax_core.specs.Syntax.{application_of, begins, expression_of, expression_of_nest, head_among, nameless, negated_numeral, symbol_of_exp}
use Rattle.making_core.proofs.Conjunctions.{IsApart}
use Rattle.making_core.proofs.EachAtom.{HoldsOfConjuncts}
use Rattle.making_core.proofs.FormInduction.{by_items}
use Rattle.making_core.proofs.ShapedForms.{false_true, fit_of, item_shape, nesting-List, parts-List, read-Keyword, read-List, read-Numeral, read-Symbol, read-Text, symbol_read}

-- The name at the head of an expression.

abbrev head_name_in : Exp-F Exp Application → List ℕ
head_name_in (Exp-F.Symbol a) = []
head_name_in (Exp-F.Numeral a) = []
head_name_in (Exp-F.Negative n) = []
head_name_in (Exp-F.Apply app) = app.head.bytes

abbrev head_name : Exp → List ℕ
head_name e = head_name_in (out-Exp e)

head-Symbol : (a : Atom) → head_name (exp.Symbol a) ≡ []
head-Symbol a = search (rules, exp_lemmas)

head-Numeral : (a : Atom) → head_name (exp.Numeral a) ≡ []
head-Numeral a = search (rules, exp_lemmas)

head-Negative : (n : Negative) → head_name (exp.Negative n) ≡ []
head-Negative n = search (rules, exp_lemmas)

head-Apply : (app : Application) → head_name (exp.Apply app) ≡ app.head.bytes
head-Apply app = search (rules, exp_lemmas)

apart_by : (e : Exp) → operator_named (head_name e) ≢ Some op.And → IsApart e
apart_by e h = λ app is named. h (ap operator_named (ap head_name is ∙ head-Apply app) ∙ named)

nameless_apart : operator_named [] ≢ Some op.And
nameless_apart h = absurd (cc)

headless : (e : Exp) → head_name e ≡ [] → IsApart e
headless e is = apart_by e (λ named. nameless_apart (sym (ap operator_named is) ∙ named))

true_false : true ≡ false → ⊥
true_false h = cc

-- no other name is that of `and`
other_name : (name : List ℕ) → same_name (codes "and") name ≡ false → operator_named name ≢ Some op.And
other_name name other named =
    let is : codes "and" ≡ name = name_of_found name op.And named in
    true_false (sym ((bytes_decides (codes "and") name).1 is) ∙ other)

-- the items begin with a symbol, if there are any
abbrev AreFronted : List Sexpr → Type 0
AreFronted items = (first : Sexpr) → slice_get items 0 ≡ Some first → is_some (symbol_of first) ≡ true

front_by : (first : Sexpr) (place : ℕ) (o : Option (List ℕ)) → symbol_of first ≡ o → is_some o ≡ true → same_name (codes "and") (unwrap_or o []) ≡ false →
    operator_named (unwrap_or (symbol_of_exp (expression_of first)) (nameless place)).bytes ≢ Some op.And
front_by first place None is there other = absurd (false_true there)
front_by first place (Some name) is there other = λ named. other_name name other (sym (ap operator_named (symbol_read first name place is)) ∙ named)

front_apart : (place : ℕ) (items : List Sexpr) → AreFronted items → same_name (codes "and") (name_at_front items) ≡ false → operator_named (head_among place (map expression_of items)).bytes ≢ Some op.And
front_apart place [] fronted other = nameless_apart
front_apart place (first ∷ others) fronted other = front_by first place (symbol_of first) refl (fronted first refl) other

nest_apart : (place : ℕ) (items : List Exp) → operator_named (head_among place items).bytes ≢ Some op.And → IsApart (expression_of_nest (record { place = place; items = items }))
nest_apart place items h = by (negated_numeral items)
  where
    by : (o : Option Atom) → IsApart (option_map_or (λ numeral. exp.Negative (record { place = place; numeral = numeral })) o (exp.Apply (application_of place items)))
    by (Some numeral) = headless (exp.Negative (record { place = place; numeral = numeral })) (head-Negative (record { place = place; numeral = numeral }))
    by None = apart_by (exp.Apply (application_of place items)) (λ named. h (sym (ap operator_named (head-Apply (application_of place items))) ∙ named))

-- a form that begins with another symbol than `and`
list_apart : (form : Sexpr) → AreFronted (parts_of form) → begins (codes "and") form ≡ false → IsApart (expression_of form)
list_apart = by_items (λ form. AreFronted (parts_of form) → begins (codes "and") form ≡ false → IsApart (expression_of form))
    (λ a fronted other. subst IsApart (sym (read-Symbol a)) (headless (exp.Symbol a) (head-Symbol a)))
    (λ a fronted other. subst IsApart (sym (read-Numeral a)) (headless (exp.Numeral a) (head-Numeral a)))
    (λ a fronted other. subst IsApart (sym (read-Text a)) (headless (exp.Symbol a) (head-Symbol a)))
    (λ a fronted other. subst IsApart (sym (read-Keyword a)) (headless (exp.Symbol a) (head-Symbol a)))
    (λ n all fronted other.
    subst IsApart (sym (read-List n))
    (nest_apart n.place (map expression_of n.items) (front_apart n.place n.items (subst AreFronted (parts-List n) fronted) (subst (λ items. same_name (codes "and") (name_at_front items) ≡ false) (parts-List n) other))))

token_apart : (form : Sexpr) → nesting form ≤ 0 → IsApart (expression_of form)
token_apart = by_items (λ form. nesting form ≤ 0 → IsApart (expression_of form))
    (λ a h. subst IsApart (sym (read-Symbol a)) (headless (exp.Symbol a) (head-Symbol a)))
    (λ a h. subst IsApart (sym (read-Numeral a)) (headless (exp.Numeral a) (head-Numeral a)))
    (λ a h. subst IsApart (sym (read-Text a)) (headless (exp.Symbol a) (head-Symbol a)))
    (λ a h. subst IsApart (sym (read-Keyword a)) (headless (exp.Symbol a) (head-Symbol a)))
    (λ n all h. let whole = nesting-List n in absurd (omega (arith, whole, h)))

-- Conjuncts.

-- the items are those of a conjunct with this name at its front
abbrev AreConjuncts : List ℕ → List Sexpr → Type 0
AreConjuncts name items = (k : ℕ) (item : Sexpr) → slice_get items k ≡ Some item → HasShape (due_in_conjunct name k) item

front_symbol : (name : List ℕ) (items : List Sexpr) → same_name (codes "and") name ≡ false → AreConjuncts name items → AreFronted items
front_symbol name items other shaped first at =
    let shape : HasShape (due_in_conjunct name 0) first = shaped 0 first at in
    let due : due_in_conjunct name 0 ≡ One role.Symbol = ap (λ b. if b then One role.Symbol else One role.Symbol) other in
    fit_of (subst (λ d. HasShape d first) due shape)

other_apart : (form : Sexpr) → HasShape (One role.Conjunct) form → begins (codes "and") form ≡ false → IsApart (expression_of form)
other_apart form shape other = list_apart form (front_symbol (name_at_front (parts_of form)) (parts_of form) other (item_shape shape)) other

pub apart_conjuncts : HoldsOfConjuncts IsApart
apart_conjuncts = record { tokens = token_apart; others = other_apart }
