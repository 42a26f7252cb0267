-- The literal of a value, and a text that was written in part.
use Rattle.std.specs.Prelude.{◌≡◌, ℕ, suc, pos, negsuc, true, false, List, ◌++◌, codes, decimal}
use Rattle.sig_core.specs.declared.value.Value.{Value}
use Rattle.sig_core.specs.declared.value.Value.TheVariants as value

-- a numeral, (- n) for a negative number, true or false
abbrev pub literal_text : Value → List ℕ
literal_text (value.Int (pos n)) = decimal n
literal_text (value.Int (negsuc n)) = codes "(- " ++ decimal (suc n) ++ codes ")"
literal_text (value.Bool true) = codes "true"
literal_text (value.Bool false) = codes "false"

-- `new` is `old` and after it a first part of `whole`
pub record IsPart {A : Type 0} (old new whole : List A) : Type 0 where
  pub done : List A
  pub rest : List A
  pub grows : new ≡ old ++ done
  pub splits : done ++ rest ≡ whole
