-- What a form is, and what it holds.
use Rattle.std.specs.Prelude.{ℕ, Bool, false, Option, Some, None, unwrap_or, List, [], drop, slice_get}
use Rattle.std.specs.Option.{option_map_or}
use Rattle.sig_core.specs.Names.{same_name}
use Rattle.sexpr_core.specs.declared.form.Nest.{Nest}
use Rattle.sexpr_core.specs.declared.form.Sexpr.{Sexpr, out-Sexpr}
use Rattle.sexpr_core.specs.declared.form.Sexpr.TheOpen.{Sexpr-F}

abbrev pub place_in : Sexpr-F Sexpr Nest → ℕ
place_in (Sexpr-F.Symbol a) = a.place
place_in (Sexpr-F.Numeral a) = a.place
place_in (Sexpr-F.Text a) = a.place
place_in (Sexpr-F.Keyword a) = a.place
place_in (Sexpr-F.List n) = n.place

-- the offset of the form's first byte
abbrev pub place_of : Sexpr → ℕ
place_of form = place_in (out-Sexpr form)

abbrev pub symbol_in : Sexpr-F Sexpr Nest → Option (List ℕ)
symbol_in (Sexpr-F.Symbol a) = Some a.bytes
symbol_in _ = None

-- the name of a symbol
abbrev pub symbol_of : Sexpr → Option (List ℕ)
symbol_of form = symbol_in (out-Sexpr form)

abbrev pub numeral_in : Sexpr-F Sexpr Nest → Option (List ℕ)
numeral_in (Sexpr-F.Numeral a) = Some a.bytes
numeral_in _ = None

-- the digits of a numeral
abbrev pub numeral_of : Sexpr → Option (List ℕ)
numeral_of form = numeral_in (out-Sexpr form)

abbrev pub keyword_in : Sexpr-F Sexpr Nest → Option (List ℕ)
keyword_in (Sexpr-F.Keyword a) = Some a.bytes
keyword_in _ = None

-- the name of a keyword, without its colon
abbrev pub keyword_of : Sexpr → Option (List ℕ)
keyword_of form = keyword_in (out-Sexpr form)

abbrev pub items_in : Sexpr-F Sexpr Nest → Option (List Sexpr)
items_in (Sexpr-F.List n) = Some n.items
items_in _ = None

-- the forms of a list
abbrev pub items_of : Sexpr → Option (List Sexpr)
items_of form = items_in (out-Sexpr form)

-- the items of a list; a token has none
abbrev pub parts_of : Sexpr → List Sexpr
parts_of form = unwrap_or (items_of form) []

-- the item in this place, or the form itself where there is none
abbrev pub item_of : ℕ → Sexpr → Sexpr
item_of k form = unwrap_or (slice_get (parts_of form) k) form

-- the items after the first
abbrev pub others_of : Sexpr → List Sexpr
others_of form = drop 1 (parts_of form)

abbrev pub is_symbol : List ℕ → Sexpr → Bool
is_symbol name form = option_map_or (same_name name) (symbol_of form) false

abbrev pub is_numeral : List ℕ → Sexpr → Bool
is_numeral digits form = option_map_or (same_name digits) (numeral_of form) false

abbrev pub is_keyword : List ℕ → Sexpr → Bool
is_keyword name form = option_map_or (same_name name) (keyword_of form) false
