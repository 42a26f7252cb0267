-- Forms that can be spelled, and that their canonical spelling is one of the same form.
use Rattle.std.specs.Prelude.{◌≡◌, ℕ, suc, IsTrue, List, [], ◌∷◌}
use Rattle.std.specs.List.{list_all}
use Rattle.sexpr_core.specs.declared.form.Atom.{Atom}
use Rattle.sexpr_core.specs.declared.form.Nest.{Nest}
use Rattle.sexpr_core.specs.declared.form.Sexpr as sexpr
use Rattle.sexpr_core.specs.declared.form.Sexpr.{Sexpr}
use Rattle.sexpr_core.specs.declared.form.Sexpr.TheOpen.{Sexpr-F, Nest-F}
use Rattle.sexpr_core.specs.declared.form.Sexpr.TheFolds.{fold-Sexpr}
use Rattle.sexpr_core.specs.Lexicon.{is_allowed, is_quoted_byte, IsNumeral, IsSimpleSymbol}
use Rattle.sexpr_core.specs.Spelling.{atom, Spell}
use Rattle.sexpr_core.specs.Texts.{form_text}

-- one level, with the forms inside at place 0
abbrev pub placeless_step : Sexpr-F Sexpr Nest → Sexpr
placeless_step (Sexpr-F.Symbol a) = sexpr.Symbol (atom 0 a.bytes)
placeless_step (Sexpr-F.Numeral a) = sexpr.Numeral (atom 0 a.bytes)
placeless_step (Sexpr-F.Text a) = sexpr.Text (atom 0 a.bytes)
placeless_step (Sexpr-F.Keyword a) = sexpr.Keyword (atom 0 a.bytes)
placeless_step (Sexpr-F.List n) = sexpr.List n

abbrev pub placeless_nest : Nest-F Sexpr Nest → Nest
placeless_nest n = record { place = 0; items = n.items }

-- the form with 0 for each place: two forms are the same, places aside, where these are equal
abbrev pub placeless : Sexpr → Sexpr
placeless = fold-Sexpr Sexpr Nest placeless_step placeless_nest

-- The lexicon has a spelling of each token of the forms, and lists nest at most `depth` deep in them.
pub data AreSpellable : ℕ → List Sexpr → Type 0 where
  nothing : (depth : ℕ) → AreSpellable depth []
  symbol : (depth : ℕ) (a : Atom) (forms : List Sexpr) →
      IsTrue (list_all is_quoted_byte a.bytes) → AreSpellable depth forms → AreSpellable depth (sexpr.Symbol a ∷ forms)
  numeral : (depth : ℕ) (a : Atom) (forms : List Sexpr) →
      IsNumeral a.bytes → AreSpellable depth forms → AreSpellable depth (sexpr.Numeral a ∷ forms)
  string : (depth : ℕ) (a : Atom) (forms : List Sexpr) →
      IsTrue (list_all is_allowed a.bytes) → AreSpellable depth forms → AreSpellable depth (sexpr.Text a ∷ forms)
  keyword : (depth : ℕ) (a : Atom) (forms : List Sexpr) →
      IsSimpleSymbol a.bytes → AreSpellable depth forms → AreSpellable depth (sexpr.Keyword a ∷ forms)
  list : (depth : ℕ) (n : Nest) (forms : List Sexpr) →
      AreSpellable depth n.items → AreSpellable (suc depth) forms → AreSpellable (suc depth) (sexpr.List n ∷ forms)

-- the canonical spelling of the form is a spelling of one form, which is the same, places aside
abbrev pub SpellsAgain : Sexpr → Type 0
SpellsAgain form = (other : Sexpr) × Spell (form_text form) (other ∷ []) × (placeless other ≡ placeless form)
