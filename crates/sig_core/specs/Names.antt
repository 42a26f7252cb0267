-- Names: the first place of one in a list, and how a symbol is spelled.
use Rattle.std.specs.Prelude.{◌≢◌, ℕ, Bool, false, not, ◌&&◌, ◌||◌, nat_eq, nat_le, ◌==◌, if◌then◌else◌, Option, List, [], ◌∷◌, ◌++◌, AllPairs, position, codes}
use Rattle.std.specs.List.{list_all, list_any}
use Rattle.std.specs.Cmp.Lexicographic.{pointwise}

-- the names are the same bytes
abbrev pub same_name : List ℕ → List ℕ → Bool
same_name a b = pointwise nat_eq a b

-- the first place of a name
abbrev pub place_of : List (List ℕ) → List ℕ → Option ℕ
place_of names name = position (same_name name) names

-- no name stands twice
abbrev pub AreDistinct : List (List ℕ) → Type 0
AreDistinct names = AllPairs (λ a b. a ≢ b) names

-- the words that name no relation, parameter or variable
abbrev pub reserved_words : List (List ℕ)
reserved_words = codes "!" ∷ codes "_" ∷ codes "as" ∷ codes "exists" ∷ codes "forall" ∷ codes "let" ∷ codes "match" ∷ codes "par"
    ∷ codes "true" ∷ codes "false" ∷ codes "not" ∷ codes "and" ∷ codes "or" ∷ codes "xor" ∷ codes "=>" ∷ codes "=" ∷ codes "distinct"
    ∷ codes "ite" ∷ codes "+" ∷ codes "-" ∷ codes "*" ∷ codes "div" ∷ codes "mod" ∷ codes "abs" ∷ codes "<" ∷ codes "<=" ∷ codes ">"
    ∷ codes ">=" ∷ codes "Int" ∷ codes "Bool" ∷ []

unfoldable pub is_reserved : List ℕ → Bool
is_reserved name = list_any (λ word. same_name word name) reserved_words

-- a byte from the first of a range to its last
abbrev pub is_between : ℕ → ℕ → ℕ → Bool
is_between first last byte = nat_le first byte && nat_le byte last

abbrev pub is_digit : ℕ → Bool
is_digit byte = is_between 48 57 byte

abbrev pub is_letter : ℕ → Bool
is_letter byte = is_between 65 90 byte || is_between 97 122 byte

-- a letter, a digit, or one of the seventeen signs of a simple symbol
abbrev pub is_symbol_byte : ℕ → Bool
is_symbol_byte byte = is_letter byte || is_digit byte || list_any (λ mark. mark == byte) (codes "~!@$%^&*_-+=<>.?/")

-- one or more bytes of a simple symbol, of which the first is no digit
abbrev pub is_simple_symbol : List ℕ → Bool
is_simple_symbol [] = false
is_simple_symbol (byte ∷ bytes) = not (is_digit byte) && list_all is_symbol_byte (byte ∷ bytes)

-- the canonical spelling of the symbol with these bytes: plain where a simple symbol can spell it, else in bars
abbrev pub symbol_text : List ℕ → List ℕ
symbol_text name = if is_simple_symbol name then name else codes "|" ++ name ++ codes "|"
