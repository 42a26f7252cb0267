-- Symbols, numbers and lists of them are read again.
use Rattle.std.proofs.Common.{◌≡◌, ℕ, ◌<◌, ◌^◌, true, false, not, nat_lt, ◌==◌, List, [], ◌∷◌, ◌++◌, map, Some, is_none, All, if◌then◌else◌, unwrap_or, refl, ap, ap₂, ◌∙◌, arith}
use Rattle.std.specs.List.{flat_map, list_all}
use Rattle.std.proofs.lemmas.Bool.{and_parts}
use Rattle.std.proofs.lemmas.Bool.Decides.{nat_tests}
use Rattle.std.proofs.lemmas.List.Elements.{All-head, All-tail}
use Rattle.sig_core.specs.declared.value.Value.{Value}
use Rattle.sig_core.specs.declared.value.Value.TheVariants as value
use Rattle.sig_core.specs.Values.{is_value}
use Rattle.sexpr_core.specs.declared.form.Sexpr.{Sexpr}
use Rattle.sexpr_core.specs.Access.{items_of, place_of, symbol_of, parts_of}
use Rattle.answer_core.specs.Numbers.{is_literal, literal, number_of}
use Rattle.answer_core.specs.Readings.{not_below, not_in_range, not_the_number, value_of}
use Rattle.answer_core.specs.Shapes.{bad_if, list_misfits, number_misfits, value_misfits}
use Rattle.answer_laws.proofs.Forms.{AreSame, Same, begins, ends, parts_are, symbol}
use Rattle.answer_laws.proofs.Literals.{literal_form, literal_read, number_form, number_is, numeral_of_number, symbol_is}

-- the numbers' digits fit
abbrev pub Fit : List ℕ → Type 0
Fit ns = All (λ n. n < 10 ^ 64) ns

pub number_shaped : (form : Sexpr) (n : ℕ) → Same form (number_form n) → number_misfits form ≡ []
unfolding number_misfits
number_shaped form n e = ap (λ o. bad_if (is_none o) form) (numeral_of_number form n e)

pub symbol_shaped : (form : Sexpr) (name : List ℕ) → Same form (symbol name) → bad_if (is_none (symbol_of form)) form ≡ []
symbol_shaped form name e = ap (λ o. bad_if (is_none o) form) (symbol_is form name e)

pub is_below : (bound : ℕ) (form : Sexpr) (n : ℕ) → number_of form ≡ n → n < bound → not_below bound form ≡ []
unfolding not_below
is_below bound form n e h = let test : nat_lt n bound ≡ true = grind (arith, nat_tests) in ap (λ k. bad_if (not (nat_lt k bound)) form) e ∙ ap (λ b. bad_if (not b) form) test

pub is_the_number : (n : ℕ) (form : Sexpr) → number_of form ≡ n → not_the_number n form ≡ []
unfolding not_the_number
is_the_number n form e = let test : (n == n) ≡ true = grind (arith, nat_tests) in ap (λ k. bad_if (not (k == n)) form) e ∙ ap (λ b. bad_if (not b) form) test

-- forms of numbers
pub numbers_are : (forms : List Sexpr) (ns : List ℕ) → Fit ns → AreSame forms (map number_form ns) → map number_of forms ≡ ns
numbers_are forms [] fit same = ap (map number_of) (ends forms same)
numbers_are forms (n ∷ ns) fit same =
    let first = begins forms (number_form n) (map number_form ns) same in
    let P : ℕ → Type 0 = λ k. k < 10 ^ 64 in
    ap (map number_of) first.is ∙ ap₂ (λ k ks. k ∷ ks) (number_is first.head n (All-head P n ns fit) first.same_head) (numbers_are first.tail ns (All-tail P n ns fit) first.same_tail)

pub numbers_shaped : (forms : List Sexpr) (ns : List ℕ) → AreSame forms (map number_form ns) → flat_map number_misfits forms ≡ []
numbers_shaped forms [] same = ap (flat_map number_misfits) (ends forms same)
numbers_shaped forms (n ∷ ns) same =
    let first = begins forms (number_form n) (map number_form ns) same in
    ap (flat_map number_misfits) first.is ∙ ap₂ (λ x y. x ++ y) (number_shaped first.head n first.same_head) (numbers_shaped first.tail ns first.same_tail)

pub are_below : (bound : ℕ) (forms : List Sexpr) (ns : List ℕ) → map number_of forms ≡ ns → All (λ n. n < bound) ns → flat_map (not_below bound) forms ≡ []
are_below bound [] ns e all = refl
are_below bound (form ∷ forms) [] e all = absurd (cc)
are_below bound (form ∷ forms) (n ∷ ns) e all =
    let P : ℕ → Type 0 = λ k. k < bound in
    let here : number_of form ≡ n = cc in
    let rest : map number_of forms ≡ ns = cc in
    ap₂ (λ x y. x ++ y) (is_below bound form n here (All-head P n ns all)) (are_below bound forms ns rest (All-tail P n ns all))

-- what is made of the numbers of forms
pub by_number : {X : Type 0} (f : ℕ → X) (forms : List Sexpr) (ns : List ℕ) → map number_of forms ≡ ns → map (λ form. f (number_of form)) forms ≡ map f ns
by_number f [] ns e = ap (map f) e
by_number f (form ∷ forms) [] e = absurd (cc)
by_number f (form ∷ forms) (n ∷ ns) e =
    let here : number_of form ≡ n = cc in
    let rest : map number_of forms ≡ ns = cc in
    ap₂ (λ x xs. x ∷ xs) (ap f here) (by_number f forms ns rest)

-- forms of values
pub record AreValues (forms : List Sexpr) (values : List Value) : Type 0 where
  pub shaped : flat_map value_misfits forms ≡ []
  pub in_range : flat_map not_in_range forms ≡ []
  pub are : map value_of forms ≡ values

value_shaped : (form : Sexpr) → is_literal form ≡ true → value_misfits form ≡ []
unfolding value_misfits
value_shaped form e = ap (λ b. bad_if (not b) form) e

value_in_range : (form : Sexpr) (v : Value) → literal form ≡ Some v → not_in_range form ≡ []
unfolding not_in_range
value_in_range form v e = ap (λ o. bad_if (is_none o) form) e

pub values_read : (forms : List Sexpr) (values : List Value) → list_all is_value values ≡ true → AreSame forms (map literal_form values) → AreValues forms values
values_read forms [] h same =
    let none = ends forms same in record {
      shaped = ap (flat_map value_misfits) none;
      in_range = ap (flat_map not_in_range) none;
      are = ap (map value_of) none;
    }
values_read forms (v ∷ values) h same =
    let both = and_parts (is_value v) (list_all is_value values) h in
    let first = begins forms (literal_form v) (map literal_form values) same in
    let here = literal_read first.head v both.0 first.same_head in
    let rest = values_read first.tail values both.1 first.same_tail in record {
      shaped = ap (flat_map value_misfits) first.is ∙ ap₂ (λ x y. x ++ y) (value_shaped first.head here.shape) rest.shaped;
      in_range = ap (flat_map not_in_range) first.is ∙ ap₂ (λ x y. x ++ y) (value_in_range first.head v here.value_is) rest.in_range;
      are = ap (map value_of) first.is ∙ ap₂ (λ x xs. x ∷ xs) (ap (λ o. unwrap_or o (value.Bool false)) here.value_is) rest.are;
    }

-- the items of a form that is a list
pub list_shaped : (misfits : Sexpr → List ℕ) (form : Sexpr) (items : List Sexpr) → items_of form ≡ Some items → flat_map misfits items ≡ [] → list_misfits misfits form ≡ []
unfolding list_misfits
list_shaped misfits form items is good =
    ap (λ o. if is_none o then place_of form ∷ [] else flat_map misfits (parts_of form)) is ∙ ap (flat_map misfits) (parts_are form items is) ∙ good
