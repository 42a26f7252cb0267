-- The canonical spelling of a form.
use Rattle.std.specs.Prelude.{ℕ, zero, suc, List, [], ◌∷◌, ◌++◌}
use Rattle.sig_core.specs.Names.{symbol_text}
use Rattle.sexpr_core.specs.declared.form.Sexpr.{Sexpr}
use Rattle.sexpr_core.specs.declared.form.Sexpr.TheOpen.{Sexpr-F, Nest-F}
use Rattle.sexpr_core.specs.declared.form.Sexpr.TheFolds.{fold-Sexpr}
use Rattle.sexpr_core.specs.Lexicon.{doubled}

-- what stands before the text in this place of a list: nothing before the first, else a space
abbrev pub gap_before : ℕ → List ℕ
gap_before zero = []
gap_before (suc i) = 32 ∷ []

abbrev pub joined_from : ℕ → List (List ℕ) → List ℕ
joined_from i [] = []
joined_from i (text ∷ texts) = (gap_before i ++ text) ++ joined_from (suc i) texts

-- the texts with one space between two
abbrev pub joined : List (List ℕ) → List ℕ
joined texts = joined_from 0 texts

-- one level, with the texts of the forms inside in their places: a symbol plain or in bars, a string with its quotes
-- doubled, a keyword after its colon, a numeral as its digits
abbrev pub text_step : Sexpr-F (List ℕ) (List ℕ) → List ℕ
text_step (Sexpr-F.Symbol a) = symbol_text a.bytes
text_step (Sexpr-F.Numeral a) = a.bytes
text_step (Sexpr-F.Text a) = 34 ∷ (doubled a.bytes ++ 34 ∷ [])
text_step (Sexpr-F.Keyword a) = 58 ∷ a.bytes
text_step (Sexpr-F.List text) = text

-- `(`, the items with one space between two, and `)`
abbrev pub text_of_nest : Nest-F (List ℕ) (List ℕ) → List ℕ
text_of_nest n = 40 ∷ (joined n.items ++ 41 ∷ [])

-- the canonical spelling of a form
abbrev pub form_text : Sexpr → List ℕ
form_text = fold-Sexpr (List ℕ) (List ℕ) text_step text_of_nest
