-- The numbers and the literals that forms spell.
use Rattle.std.specs.Prelude.{ℕ, ℤ, pos, true, false, Bool, ◌&&◌, ◌||◌, ◌==◌, if◌then◌else◌, Option, Some, is_some, option_map, unwrap_or, List, [], drop, length, codes}
use Rattle.sig_core.specs.declared.value.Value.{Value}
use Rattle.sig_core.specs.declared.value.Value.TheVariants as value
use Rattle.sig_core.specs.Names.{same_name}
use Rattle.sig_core.specs.Values.{ranged}
use Rattle.sexpr_core.specs.declared.form.Sexpr.{Sexpr}
use Rattle.sexpr_core.specs.Access.{symbol_of, numeral_of, parts_of, item_of}
use Rattle.sexpr_core.specs.Numerals.{is_negative, minus, number_from}

-- the name of a symbol, empty where the form is none
abbrev pub text_of : Sexpr → List ℕ
text_of form = unwrap_or (symbol_of form) []

-- the number of a numeral
unfoldable pub number_of : Sexpr → ℕ
number_of form = number_from 0 (unwrap_or (numeral_of form) [])

-- the number of a symbol that is `-` and a numeral
unfoldable pub number_after_sign : List ℕ → ℕ
number_after_sign name = number_from 0 (drop 1 name)

-- `(- n)` with a numeral n
unfoldable pub is_negated : Sexpr → Bool
is_negated form = same_name (codes "-") (text_of (item_of 0 form)) && ((length (parts_of form) == 2) && is_some (numeral_of (item_of 1 form)))

-- `true`, `false` or a negative number
unfoldable pub is_constant : List ℕ → Bool
is_constant name = same_name (codes "true") name || (same_name (codes "false") name || is_negative name)

-- the form is a literal, of a number in range or not
unfoldable pub is_literal : Sexpr → Bool
is_literal form = is_some (numeral_of form) || (is_negated form || is_constant (text_of form))

-- the value of a whole number, if it is in range
abbrev pub whole : ℤ → Option Value
whole z = option_map value.Int (ranged z)

unfoldable pub constant : List ℕ → Option Value
constant name =
    if same_name (codes "true") name then Some (value.Bool true)
    else if same_name (codes "false") name then Some (value.Bool false)
    else whole (minus (number_after_sign name))

-- the value of a literal, if it is in range
unfoldable pub literal : Sexpr → Option Value
literal form =
    if is_some (numeral_of form) then whole (pos (number_of form))
    else if is_negated form then whole (minus (number_of (item_of 1 form)))
    else constant (text_of form)
