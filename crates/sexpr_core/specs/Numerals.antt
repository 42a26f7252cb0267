-- The numbers that digits spell.
use Rattle.std.specs.Prelude.{ℕ, zero, suc, ℤ, pos, negsuc, ◌+◌, ◌*◌, ◌-◌, Bool, false, not, ◌&&◌, ◌==◌, List, [], ◌∷◌}
use Rattle.std.specs.List.{list_all}
use Rattle.sexpr_core.specs.Lexicon.{is_digit}

-- `0`, or digits that do not begin with 0
abbrev pub is_number : List ℕ → Bool
is_number [] = false
is_number (first ∷ []) = is_digit first
is_number (first ∷ second ∷ others) = not (first == 48) && list_all is_digit (first ∷ second ∷ others)

-- `-` followed directly by a numeral
abbrev pub is_negative : List ℕ → Bool
is_negative [] = false
is_negative (sign ∷ digits) = (sign == 45) && is_number digits

-- the number of a list of digits, after a number
abbrev pub number_from : ℕ → List ℕ → ℕ
number_from n [] = n
number_from n (digit ∷ digits) = number_from (n * 10 + (digit - 48)) digits

-- the whole number that a numeral stands for after a minus
abbrev pub minus : ℕ → ℤ
minus zero = pos 0
minus (suc n) = negsuc n
