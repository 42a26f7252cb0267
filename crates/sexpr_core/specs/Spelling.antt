-- Which bytes spell which forms.
use Rattle.std.specs.Prelude.{◌≡◌, ℕ, suc, ◌+◌, List, [], ◌∷◌, ◌++◌, length, not, ◌==◌, IsTrue}
use Rattle.std.specs.List.{list_all}
use Rattle.sexpr_core.specs.declared.form.Atom.{Atom}
use Rattle.sexpr_core.specs.declared.form.Sexpr as sexpr
use Rattle.sexpr_core.specs.declared.form.Sexpr.{Sexpr}
use Rattle.sexpr_core.specs.Lexicon.{is_blank, is_line_end, is_symbol_byte, is_allowed, is_quoted_byte, EndsBefore, IsNumeral, IsSimpleSymbol, doubled}

abbrev pub atom : ℕ → List ℕ → Atom
atom place bytes = record { place = place; bytes = bytes }

-- The text at a place, with the rest after it, is a token, and this is its form. The rest doesn't continue the
-- token, and no digit and no byte of a simple symbol follows a numeral.
pub data IsToken (place : ℕ) (rest : List ℕ) : List ℕ → Sexpr → Type 0 where
  numeral : (text : List ℕ) →
      IsNumeral text → EndsBefore is_symbol_byte rest →
      IsToken place rest text (sexpr.Numeral (atom place text))
  simple_symbol : (text : List ℕ) →
      IsSimpleSymbol text → EndsBefore is_symbol_byte rest →
      IsToken place rest text (sexpr.Symbol (atom place text))
  -- the name between vertical bars
  quoted_symbol : (name : List ℕ) →
      IsTrue (list_all is_quoted_byte name) →
      IsToken place rest (124 ∷ (name ++ 124 ∷ [])) (sexpr.Symbol (atom place name))
  -- the contents between double quotes
  string : (contents : List ℕ) →
      IsTrue (list_all is_allowed contents) → EndsBefore (λ byte. byte == 34) rest →
      IsToken place rest (34 ∷ (doubled contents ++ 34 ∷ [])) (sexpr.Text (atom place contents))
  -- the name after a colon
  keyword : (name : List ℕ) →
      IsSimpleSymbol name → EndsBefore is_symbol_byte rest →
      IsToken place rest (58 ∷ name) (sexpr.Keyword (atom place name))

-- The bytes from a place on spell the forms, up to the place `end`, where `rest` follows. Lists nest at most `depth`
-- deep in them.
pub data Spelled : ℕ → ℕ → List ℕ → List Sexpr → ℕ → List ℕ → Type 0 where
  nothing : (depth place : ℕ) (rest : List ℕ) →
      Spelled depth place rest [] place rest
  -- blanks and comments stand anywhere between the tokens
  blank : (depth place byte : ℕ) (bytes : List ℕ) (forms : List Sexpr) (end : ℕ) (rest : List ℕ) →
      IsTrue (is_blank byte) →
      Spelled depth (place + 1) bytes forms end rest →
      Spelled depth place (byte ∷ bytes) forms end rest
  -- a semicolon and the text after it, to the next LF or CR, or to the end of the bytes
  comment : (depth place : ℕ) (text bytes : List ℕ) (forms : List Sexpr) (end : ℕ) (rest : List ℕ) →
      IsTrue (list_all (λ byte. not (is_line_end byte)) text) → EndsBefore (λ byte. not (is_line_end byte)) bytes →
      Spelled depth (place + (1 + length text)) bytes forms end rest →
      Spelled depth place (59 ∷ (text ++ bytes)) forms end rest
  token : (depth place : ℕ) (text bytes : List ℕ) (form : Sexpr) (forms : List Sexpr) (end : ℕ) (rest : List ℕ) →
      IsToken place bytes text form →
      Spelled depth (place + length text) bytes forms end rest →
      Spelled depth place (text ++ bytes) (form ∷ forms) end rest
  -- `(`, the items, nested one level less deep, and `)`
  list : (depth place : ℕ) (bytes : List ℕ) (items : List Sexpr) (close : ℕ) (after : List ℕ) (forms : List Sexpr) (end : ℕ) (rest : List ℕ) →
      Spelled depth (place + 1) bytes items close (41 ∷ after) →
      Spelled (suc depth) (close + 1) after forms end rest →
      Spelled (suc depth) place (40 ∷ bytes) (sexpr.List (record { place = place; items = items }) ∷ forms) end rest

-- the forms that a text spells, with lists that nest at most 200 deep
abbrev pub Spell : List ℕ → List Sexpr → Type 0
Spell text forms = (end : ℕ) × Spelled 200 0 text forms end []

-- no token stands at the front of the bytes
abbrev pub HasNoToken : ℕ → List ℕ → Type 0
HasNoToken place bytes = (text rest : List ℕ) (form : Sexpr) → bytes ≡ text ++ rest → IsToken place rest text form → ⊥
