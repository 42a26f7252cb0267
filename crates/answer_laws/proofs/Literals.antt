-- The literal of a value in range is read as the value.
use Rattle.std.proofs.Common.{◌≡◌, ℕ, ◌+◌, ◌<◌, ◌^◌, suc, Bool, true, false, ◌&&◌, ◌||◌, ◌==◌, Some, None, is_some, option_map, unwrap_or, List, [], ◌∷◌, length, decimal, codes, refl, ap, ap₂, ◌∙◌, arith}
use lib.IntN.{ℤ, pos, negsuc}
use lib.Signed.{mag}
use Rattle.std.proofs.lemmas.Bool.Decides.{nat_tests}
use Rattle.std.specs.Prelude.{if◌then◌else◌}
use Rattle.sig_core.specs.declared.value.Value.{Value}
use Rattle.sig_core.specs.declared.value.Value.TheVariants as value
use Rattle.sig_core.specs.Names.{same_name}
use Rattle.sig_core.specs.Values.{is_in_range, is_value}
use Rattle.sexpr_core.specs.declared.form.Sexpr.{Sexpr}
use Rattle.sexpr_core.specs.Access.{symbol_of, numeral_of, parts_of, item_of}
use Rattle.sexpr_core.specs.Numerals.{number_from, minus}
use Rattle.answer_core.specs.Numbers.{text_of, number_of, is_constant, is_literal, is_negated, literal, constant, whole}
use Rattle.answer_laws.proofs.Forms.{Same, begins, ends, is_list, item_is, list, numeral, numeral_of-list, numeral_of-numeral, numeral_of-symbol, parts_are, no_items, no_parts, same_numeral, same_symbol, symbol, symbol_of-symbol}
use Rattle.answer_laws.proofs.Numerals.{numeral_read}

-- the form that is printed for a number and for a value
abbrev pub number_form : ℕ → Sexpr
number_form n = numeral (decimal n)

abbrev pub literal_form : Value → Sexpr
literal_form (value.Int (pos n)) = number_form n
literal_form (value.Int (negsuc n)) = list (symbol (codes "-") ∷ number_form (suc n) ∷ [])
literal_form (value.Bool true) = symbol (codes "true")
literal_form (value.Bool false) = symbol (codes "false")

pub numeral_of_number : (form : Sexpr) (n : ℕ) → Same form (number_form n) → numeral_of form ≡ Some (decimal n)
numeral_of_number form n e = same_numeral form (number_form n) e ∙ numeral_of-numeral (decimal n)

pub number_is : (form : Sexpr) (n : ℕ) → n < 10 ^ 64 → Same form (number_form n) → number_of form ≡ n
unfolding number_of
number_is form n h e = ap (λ o. number_from 0 (unwrap_or o [])) (numeral_of_number form n e) ∙ numeral_read n h

pub symbol_is : (form : Sexpr) (name : List ℕ) → Same form (symbol name) → symbol_of form ≡ Some name
symbol_is form name e = same_symbol form (symbol name) e ∙ symbol_of-symbol name

pub text_is : (form : Sexpr) (name : List ℕ) → Same form (symbol name) → text_of form ≡ name
text_is form name e = ap (λ o. unwrap_or o []) (symbol_is form name e)

-- the form is read as the value
pub record IsRead (form : Sexpr) (v : Value) : Type 0 where
  pub shape : is_literal form ≡ true
  pub value_is : literal form ≡ Some v

below : (n : ℕ) → n < 2 ^ 127 → n + 1 < 10 ^ 64
below n h = omega (arith, h)

-- the digits of a number in range fit
pub in_range : (z : ℤ) → is_in_range z ≡ true → mag z + 1 < 10 ^ 64
in_range (pos n) h = let small : n < 2 ^ 127 = grind (arith, nat_tests) in below n small
in_range (negsuc n) h = let small : n < 2 ^ 127 = grind (arith, nat_tests) in below n small

ranged-of : (z : ℤ) → is_in_range z ≡ true → whole z ≡ Some (value.Int z)
ranged-of z h = ap (λ b. option_map value.Int (if b then Some z else None)) h

literal_by_numeral : (form : Sexpr) → is_some (numeral_of form) ≡ true → literal form ≡ whole (pos (number_of form))
unfolding literal
literal_by_numeral form e = ap (λ b. if b then whole (pos (number_of form)) else (if is_negated form then whole (minus (number_of (item_of 1 form))) else constant (text_of form))) e

shape_by_numeral : (form : Sexpr) → is_some (numeral_of form) ≡ true → is_literal form ≡ true
unfolding is_literal
shape_by_numeral form e = ap (λ b. b || (is_negated form || is_constant (text_of form))) e

literal_by_sign : (form : Sexpr) → is_some (numeral_of form) ≡ false → is_negated form ≡ true → literal form ≡ whole (minus (number_of (item_of 1 form)))
unfolding literal
literal_by_sign form e p = ap₂ (λ b c. if b then whole (pos (number_of form)) else (if c then whole (minus (number_of (item_of 1 form))) else constant (text_of form))) e p

shape_by_sign : (form : Sexpr) → is_some (numeral_of form) ≡ false → is_negated form ≡ true → is_literal form ≡ true
unfolding is_literal
shape_by_sign form e p = ap₂ (λ b c. b || (c || is_constant (text_of form))) e p

negated_by : (form : Sexpr) → text_of (item_of 0 form) ≡ codes "-" → length (parts_of form) ≡ 2 → is_some (numeral_of (item_of 1 form)) ≡ true → is_negated form ≡ true
unfolding is_negated
negated_by form name two number =
    ap (λ t. same_name (codes "-") t && ((length (parts_of form) == 2) && is_some (numeral_of (item_of 1 form)))) name
    ∙ ap₂ (λ k b. (k == 2) && b) two number

not_negated : (form : Sexpr) (name : List ℕ) → text_of form ≡ name → parts_of form ≡ [] → is_negated form ≡ false
unfolding is_negated
not_negated form name e none = parts_first (same_name (codes "-") (text_of (item_of 0 form))) ∙ refl where
  both : (a b : Bool) → b ≡ false → a && b ≡ false
  both true b e = e
  both false b e = refl

  parts_first : (a : Bool) → (a && ((length (parts_of form) == 2) && is_some (numeral_of (item_of 1 form)))) ≡ false
  parts_first a = both a ((length (parts_of form) == 2) && is_some (numeral_of (item_of 1 form))) (ap (λ ps. (length ps == 2) && is_some (numeral_of (item_of 1 form))) none)

literal_by_constant : (form : Sexpr) → is_some (numeral_of form) ≡ false → is_negated form ≡ false → literal form ≡ constant (text_of form)
unfolding literal
literal_by_constant form e p = ap₂ (λ b c. if b then whole (pos (number_of form)) else (if c then whole (minus (number_of (item_of 1 form))) else constant (text_of form))) e p

shape_by_constant : (form : Sexpr) → is_some (numeral_of form) ≡ false → is_negated form ≡ false → is_literal form ≡ is_constant (text_of form)
unfolding is_literal
shape_by_constant form e p = ap₂ (λ b c. b || (c || is_constant (text_of form))) e p

constant_true : constant (codes "true") ≡ Some (value.Bool true)
unfolding constant
constant_true = refl

constant_false : constant (codes "false") ≡ Some (value.Bool false)
unfolding constant
constant_false = refl

is_constant_true : is_constant (codes "true") ≡ true
unfolding is_constant
is_constant_true = refl

is_constant_false : is_constant (codes "false") ≡ true
unfolding is_constant
is_constant_false = refl

whole_read : (form : Sexpr) (n : ℕ) → is_value (value.Int (pos n)) ≡ true → Same form (number_form n) → IsRead form (value.Int (pos n))
whole_read form n h e =
    let there : is_some (numeral_of form) ≡ true = ap is_some (numeral_of_number form n e) in
    let small : n + 1 < 10 ^ 64 = in_range (pos n) h in record {
      shape = shape_by_numeral form there;
      value_is = literal_by_numeral form there ∙ ap (λ k. whole (pos k)) (number_is form n (omega (arith, small)) e) ∙ ranged-of (pos n) h;
    }

negative_read : (form : Sexpr) (n : ℕ) → is_value (value.Int (negsuc n)) ≡ true → Same form (literal_form (value.Int (negsuc n))) → IsRead form (value.Int (negsuc n))
negative_read form n h e =
    let whole_list = is_list form (symbol (codes "-") ∷ number_form (suc n) ∷ []) e in
    let first = begins whole_list.items (symbol (codes "-")) (number_form (suc n) ∷ []) whole_list.same in
    let second = begins first.tail (number_form (suc n)) [] first.same_tail in
    let last = ends second.tail second.same_tail in
    let items : whole_list.items ≡ first.head ∷ second.head ∷ [] = first.is ∙ ap (λ t. first.head ∷ t) (second.is ∙ ap (λ t. second.head ∷ t) last) in
    let parts : parts_of form ≡ first.head ∷ second.head ∷ [] = parts_are form whole_list.items whole_list.is ∙ items in
    let sign : item_of 0 form ≡ first.head = item_is form (first.head ∷ second.head ∷ []) 0 first.head parts refl in
    let digits : item_of 1 form ≡ second.head = item_is form (first.head ∷ second.head ∷ []) 1 second.head parts refl in
    let absent : is_some (numeral_of form) ≡ false = ap is_some (same_numeral form (literal_form (value.Int (negsuc n))) e ∙ numeral_of-list (symbol (codes "-") ∷ number_form (suc n) ∷ [])) in
    let small : suc n < 10 ^ 64 = omega (arith, in_range (negsuc n) h) in
    let negated = negated_by form (ap text_of sign ∙ text_is first.head (codes "-") first.same_head) (ap length parts)
    (ap (λ x. is_some (numeral_of x)) digits ∙ ap is_some (numeral_of_number second.head (suc n) second.same_head)) in record {
      shape = shape_by_sign form absent negated;
      value_is =
          literal_by_sign form absent negated ∙ ap (λ x. whole (minus (number_of x))) digits
          ∙ ap (λ k. whole (minus k)) (number_is second.head (suc n) small second.same_head) ∙ ranged-of (negsuc n) h;
    }

constant_read : (form : Sexpr) (name : List ℕ) (v : Value) → is_constant name ≡ true → constant name ≡ Some v → Same form (symbol name) → IsRead form v
constant_read form name v known is e =
    let text = text_is form name e in
    let absent : is_some (numeral_of form) ≡ false = ap is_some (same_numeral form (symbol name) e ∙ numeral_of-symbol name) in
    let negated = not_negated form name text (no_parts form (no_items form name e)) in record {
      shape = shape_by_constant form absent negated ∙ ap is_constant text ∙ known;
      value_is = literal_by_constant form absent negated ∙ ap constant text ∙ is;
    }

-- a form that is the literal of a value in range, places aside, is read as the value
pub literal_read : (form : Sexpr) (v : Value) → is_value v ≡ true → Same form (literal_form v) → IsRead form v
literal_read form (value.Int (pos n)) h e = whole_read form n h e
literal_read form (value.Int (negsuc n)) h e = negative_read form n h e
literal_read form (value.Bool true) h e = constant_read form (codes "true") (value.Bool true) is_constant_true constant_true e
literal_read form (value.Bool false) h e = constant_read form (codes "false") (value.Bool false) is_constant_false constant_false e
