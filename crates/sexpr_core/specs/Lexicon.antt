-- The bytes and the tokens of the lexicon of SMT-LIB 2.6, as this project reads it. A byte is its number.
use Rattle.std.specs.Prelude.{◌≡◌, ◌≢◌, ℕ, List, [], ◌∷◌, Bool, ◌||◌, ◌&&◌, not, ◌==◌, if◌then◌else◌, IsTrue, IsFalse}
use Rattle.std.specs.List.{list_all, list_any}
pub use Rattle.sig_core.specs.Names.{is_between, is_digit, is_letter, is_symbol_byte}

-- TAB, LF, CR or space
abbrev pub is_blank : ℕ → Bool
is_blank byte = list_any (λ blank. blank == byte) (9 ∷ 10 ∷ 13 ∷ 32 ∷ [])

-- LF or CR
abbrev pub is_line_end : ℕ → Bool
is_line_end byte = list_any (λ line_end. line_end == byte) (10 ∷ 13 ∷ [])

-- may stand in a quoted symbol or a string: a blank, a printable character or a byte from 128 on
abbrev pub is_allowed : ℕ → Bool
is_allowed byte = is_blank byte || is_between 32 126 byte || is_between 128 255 byte

-- may stand in a quoted symbol: no vertical bar and no backslash
abbrev pub is_quoted_byte : ℕ → Bool
is_quoted_byte byte = is_allowed byte && not (byte == 124) && not (byte == 92)

-- the bytes don't begin with one that passes the test
abbrev pub EndsBefore : (ℕ → Bool) → List ℕ → Type 0
EndsBefore test [] = Unit {0}
EndsBefore test (byte ∷ bytes) = IsFalse (test byte)

-- `0`, or digits not beginning with `0`
abbrev pub IsNumeral : List ℕ → Type 0
IsNumeral [] = ⊥
IsNumeral (first ∷ others) = IsTrue (list_all is_digit (first ∷ others)) × (first ≡ 48 → others ≡ [])

-- one or more bytes of simple symbols, not beginning with a digit
abbrev pub IsSimpleSymbol : List ℕ → Type 0
IsSimpleSymbol [] = ⊥
IsSimpleSymbol (first ∷ others) = IsTrue (list_all is_symbol_byte (first ∷ others)) × IsFalse (is_digit first)

-- the contents of a string, with each quote doubled
abbrev pub doubled : List ℕ → List ℕ
doubled [] = []
doubled (byte ∷ bytes) = if byte == 34 then 34 ∷ 34 ∷ doubled bytes else byte ∷ doubled bytes

-- The contents of a string don't go on: the bytes are none, or begin with a quote that isn't doubled, or with a byte
-- that may not stand in a string.
abbrev pub EndsContents : List ℕ → Type 0
EndsContents [] = Unit {0}
EndsContents (byte ∷ bytes) = (byte ≡ 34 → EndsBefore (λ next. next == 34) bytes) × (byte ≢ 34 → IsFalse (is_allowed byte))
