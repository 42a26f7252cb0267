-- The digits of a number are a numeral of that number.
use Rattle.std.proofs.Common.{◌≡◌, ℕ, ◌+◌, ◌*◌, ◌-◌, ◌/◌, ◌%◌, ◌<◌, ◌≤◌, ◌^◌, true, List, [], ◌∷◌, ◌++◌, decimal, refl, arith}
use Rattle.std.specs.List.{list_all}
use Rattle.std.proofs.lemmas.Bool.Decides.{nat_tests}
use Rattle.std.proofs.lemmas.Fmt.{decimal_by_steps_wide}
use Rattle.sexpr_core.specs.Lexicon.{is_digit, IsNumeral}
use Rattle.sexpr_core.specs.Numerals.{number_from}
use Rattle.sexpr_core.proofs.Bytes.{list_all-more}
use Rattle.answer_laws.specs.Laws.{NumeralsReadBack}

-- the first byte is there and is no 0
abbrev Leads : List ℕ → Type 0
Leads [] = ⊥
Leads (digit ∷ digits) = digit ≡ 48 → ⊥

record IsDecimal (n : ℕ) (digits : List ℕ) : Type 0 where
  digits_all : list_all is_digit digits ≡ true
  numeral : IsNumeral digits
  value : number_from 0 digits ≡ n
  leads : 0 < n → Leads digits

number_from-more : (n : ℕ) (digits : List ℕ) (digit : ℕ) → number_from n (digits ++ digit ∷ []) ≡ number_from n digits * 10 + (digit - 48)
number_from-more n [] digit = refl
number_from-more n (d ∷ ds) digit = number_from-more (n * 10 + (d - 48)) ds digit

is_digit-of : (k : ℕ) → k < 10 → is_digit (48 + k) ≡ true
is_digit-of k h = grind (arith, nat_tests)

one : (n : ℕ) → n < 10 → IsDecimal n ((48 + n) ∷ [])
one n h =
    let all : list_all is_digit ((48 + n) ∷ []) ≡ true = rw (is_digit-of n h) refl in record {
      digits_all = all;
      numeral = (all, λ e. refl);
      value = omega arith;
      leads = λ positive e. omega (arith, e);
    }

leads-more : (digits : List ℕ) (digit : ℕ) → Leads digits → Leads (digits ++ digit ∷ [])
leads-more [] digit h = absurd h
leads-more (d ∷ ds) digit h = h

numeral_of_digits : (digits : List ℕ) → list_all is_digit digits ≡ true → Leads digits → IsNumeral digits
numeral_of_digits [] all h = absurd h
numeral_of_digits (d ∷ ds) all h = (all, λ e. absurd (h e))

more : (n : ℕ) (digits : List ℕ) → 10 ≤ n → IsDecimal (n / 10) digits → IsDecimal n (digits ++ ((48 + n % 10) ∷ []))
more n digits h had =
    let digit : is_digit (48 + n % 10) ≡ true = is_digit-of (n % 10) (omega arith) in
    let all = list_all-more is_digit digits (48 + n % 10) had.digits_all digit in
    let first = leads-more digits (48 + n % 10) (had.leads (omega arith)) in record {
      digits_all = all;
      numeral = numeral_of_digits (digits ++ (48 + n % 10) ∷ []) all first;
      value = omega (arith, number_from-more 0 digits (48 + n % 10), had.value);
      leads = λ positive. first;
    }

is_decimal : (n : ℕ) → n < 10 ^ 64 → IsDecimal n (decimal n)
is_decimal n h = decimal_by_steps_wide IsDecimal one more n h

pub numeral_spelled : (n : ℕ) → n < 10 ^ 64 → IsNumeral (decimal n)
numeral_spelled n h = (is_decimal n h).numeral

pub numeral_read : (n : ℕ) → n < 10 ^ 64 → number_from 0 (decimal n) ≡ n
numeral_read n h = (is_decimal n h).value

pub numerals_read_back : NumeralsReadBack
numerals_read_back n h = (numeral_spelled n h, numeral_read n h)
