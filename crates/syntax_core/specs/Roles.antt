-- What a form must be at its own level to stand in a place of a command, and what is due in the places of its items.
use Rattle.std.specs.Prelude.{ℕ, Bool, true, false, not, ◌&&◌, ◌||◌, nat_eq, nat_le, if◌then◌else◌, Option, Some, None, is_some, unwrap_or, List, [], ◌∷◌, length, codes}
use Rattle.std.specs.Option.{option_map_or}
use Rattle.sig_core.specs.Names.{same_name, is_reserved}
use Rattle.expr_core.specs.Sorts.{takes}
pub use Rattle.expr_core.specs.Names.{operator_named}
use Rattle.sexpr_core.specs.declared.form.Sexpr.{Sexpr}
use Rattle.sexpr_core.specs.Access.{symbol_of, numeral_of, keyword_of, items_of, is_symbol, is_numeral, is_keyword}
use Rattle.syntax_core.specs.declared.commands.Head.{Head}
use Rattle.syntax_core.specs.declared.commands.Head.TheVariants.{SetInfo, DeclareTermTypes, DefineFunsRec, SynthFun, Constraint, CheckSynth}
use Rattle.syntax_core.specs.declared.roles.Role.{Role}
use Rattle.syntax_core.specs.declared.roles.Role.TheVariants as role
use Rattle.syntax_core.specs.declared.roles.Due.{Due}
use Rattle.syntax_core.specs.declared.roles.Due.TheVariants.{One, Many}
use Rattle.syntax_core.specs.Commands.{head_named}

-- how many items a list has, if the form is one
abbrev pub count_of : Sexpr → Option ℕ
count_of form = option_map_or (λ items. Some (length items)) (items_of form) None

-- the form is a list of so many items
abbrev pub is_list_of : ℕ → Sexpr → Bool
is_list_of n form = option_map_or (λ items. nat_eq (length items) n) (items_of form) false

-- the form is a list of one item or more
abbrev pub is_filled : Sexpr → Bool
is_filled form = option_map_or (λ items. nat_le 1 (length items)) (items_of form) false

-- the form isn't a symbol of another name: what is no symbol is bad itself, and not the list that it begins
abbrev pub may_be : List ℕ → Sexpr → Bool
may_be name form = option_map_or (same_name name) (symbol_of form) true

-- where both forms are lists, these are as long
abbrev pub are_as_long : Sexpr → Sexpr → Bool
are_as_long one other = option_map_or (λ n. option_map_or (nat_eq n) (count_of other) true) (count_of one) true

-- a name and so many operands make an expression: an operator that takes them, or a word that isn't reserved
abbrev pub is_application : List ℕ → ℕ → Bool
is_application name operands = option_map_or (λ operator. takes operator operands) (operator_named name) (not (is_reserved name))

abbrev pub is_conjunct : List ℕ → ℕ → Bool
is_conjunct name operands = same_name (codes "and") name || is_application name operands

abbrev pub is_body : List ℕ → ℕ → Bool
is_body name operands =
    if same_name (codes "exists") name then nat_eq operands 2
    else if same_name (codes "or") name then nat_le 1 operands
    else is_conjunct name operands

abbrev pub is_example : List ℕ → ℕ → Bool
is_example name operands = if same_name (codes "and") name then nat_le 1 operands else not (is_reserved name)

-- the word may stand before so many others in a list of this role
abbrev pub may_head : Role → List ℕ → ℕ → Bool
may_head role.Body name operands = is_body name operands
may_head role.Conjunct name operands = is_conjunct name operands
may_head role.Expression name operands = is_application name operands
may_head role.Example name operands = is_example name operands
may_head _ name operands = false

-- the items begin with a symbol that may stand before so many others, or with what is no symbol
abbrev pub are_headed : Role → List Sexpr → Bool
are_headed r [] = false
are_headed r (first ∷ others) = option_map_or (λ name. may_head r name (length others)) (symbol_of first) true

abbrev pub is_headed : Role → Sexpr → Bool
is_headed r form = option_map_or (are_headed r) (items_of form) false

-- a symbol or a numeral
abbrev pub is_plain : Sexpr → Bool
is_plain form = is_some (symbol_of form) || is_some (numeral_of form)

-- `:input` and `:output`, in either order
unfoldable pub are_attributes : Sexpr → Sexpr → Bool
are_attributes one other =
    is_keyword (codes "input") one && is_keyword (codes "output") other || is_keyword (codes "output") one && is_keyword (codes "input") other

-- two attributes, each a keyword and a list
abbrev pub have_attributes : List Sexpr → Bool
have_attributes (key ∷ names ∷ other_key ∷ other_names ∷ []) = are_attributes key other_key
have_attributes _ = false

-- `(! (match ..) A A)`, six items
abbrev pub are_of_definition : List Sexpr → Bool
are_of_definition (mark ∷ body ∷ attributes) = may_be (codes "!") mark && have_attributes attributes
are_of_definition _ = false

-- `(match s (case ..))`
abbrev pub are_of_match : List Sexpr → Bool
are_of_match (word ∷ term ∷ cases ∷ []) = may_be (codes "match") word
are_of_match _ = false

-- `(- n)`
abbrev pub are_of_negation : List Sexpr → Bool
are_of_negation (sign ∷ number ∷ []) = may_be (codes "-") sign
are_of_negation _ = false

abbrev pub passes : (List Sexpr → Bool) → Sexpr → Bool
passes test form = option_map_or test (items_of form) false

-- what stands after the word of a command
abbrev pub are_of_command : Head → List Sexpr → Bool
are_of_command SetInfo (key ∷ []) = true
are_of_command SetInfo (key ∷ info ∷ []) = true
are_of_command DeclareTermTypes (names ∷ groups ∷ []) = are_as_long names groups
are_of_command DefineFunsRec (declarations ∷ definitions ∷ []) = are_as_long declarations definitions
are_of_command SynthFun (name ∷ params ∷ type ∷ []) = true
are_of_command SynthFun (name ∷ params ∷ type ∷ names ∷ groups ∷ []) = not (is_list_of 0 names) && are_as_long names groups
are_of_command Constraint (example ∷ []) = true
are_of_command CheckSynth [] = true
are_of_command _ _ = false

-- the command that the items begin
abbrev pub head_of : List Sexpr → Option Head
head_of [] = None
head_of (first ∷ others) = option_map_or head_named (symbol_of first) None

abbrev pub is_command : List Sexpr → Bool
is_command [] = false
is_command (first ∷ others) = option_map_or (λ head. are_of_command head others) (head_of (first ∷ others)) false

-- the form can stand in a place of this role, whatever its items are
abbrev pub fits_role : Role → Sexpr → Bool
fits_role role.Anything form = true
fits_role role.Keyword form = is_some (keyword_of form)
fits_role role.Symbol form = is_some (symbol_of form)
fits_role role.Numeral form = is_some (numeral_of form)
fits_role role.Zero form = is_numeral (codes "0") form
fits_role role.BoolName form = is_symbol (codes "Bool") form
fits_role role.Nothing form = is_list_of 0 form
fits_role role.Command form = passes is_command form
fits_role role.TypeName form = is_list_of 2 form
fits_role role.Group form = is_some (items_of form)
fits_role role.Constructor form = is_some (symbol_of form) || is_filled form
fits_role role.Declaration form = is_list_of 3 form
fits_role role.Pair form = is_list_of 2 form
fits_role role.Definition form = passes are_of_definition form
fits_role role.Match form = passes are_of_match form
fits_role role.Case form = is_list_of 2 form
fits_role role.Body form = is_plain form || is_headed role.Body form
fits_role role.Conjunct form = is_plain form || is_headed role.Conjunct form
fits_role role.Expression form = is_plain form || is_headed role.Expression form
fits_role role.Nonterminal form = is_list_of 3 form
fits_role role.Production form = is_some (symbol_of form) || is_filled form
fits_role role.ProductionArgument form = is_some (symbol_of form) || is_some (items_of form)
fits_role role.Example form = is_headed role.Example form
fits_role role.ExampleArgument form = is_plain form || passes are_of_negation form

-- the form can stand where this is due, whatever its items are
abbrev pub fits : Due → Sexpr → Bool
fits (One r) form = fits_role r form
fits (Many r) form = is_some (items_of form)

-- a symbol first, and then forms of one role
abbrev pub after_symbol : Role → ℕ → Due
after_symbol r k = if nat_eq k 0 then One role.Symbol else One r

abbrev pub due_in_conjunct : List ℕ → ℕ → Due
due_in_conjunct name k = if same_name (codes "and") name then after_symbol role.Conjunct k else after_symbol role.Expression k

-- `(exists (pair ..) body)`
abbrev pub due_in_exists : ℕ → Due
due_in_exists k = if nat_eq k 1 then Many role.Pair else after_symbol role.Body k

abbrev pub due_in_body : List ℕ → ℕ → Due
due_in_body name k =
    if same_name (codes "exists") name then due_in_exists k
    else if same_name (codes "or") name then after_symbol role.Body k
    else due_in_conjunct name k

abbrev pub due_in_example : List ℕ → ℕ → Due
due_in_example name k = if same_name (codes "and") name then after_symbol role.Example k else after_symbol role.ExampleArgument k

-- the first of two, and of each further place the second
abbrev pub first_of_two : Due → Due → ℕ → Due
first_of_two one other k = if nat_eq k 1 then one else other

abbrev pub due_in_synth_fun : ℕ → Due
due_in_synth_fun k =
    if nat_eq k 2 then One role.Nothing
    else if nat_eq k 4 then Many role.Pair
    else if nat_eq k 5 then Many role.Nonterminal
    else One role.Symbol

abbrev pub due_after : Head → ℕ → Due
due_after SetInfo k = first_of_two (One role.Keyword) (One role.Anything) k
due_after DeclareTermTypes k = first_of_two (Many role.TypeName) (Many role.Group) k
due_after DefineFunsRec k = first_of_two (Many role.Declaration) (Many role.Definition) k
due_after SynthFun k = due_in_synth_fun k
due_after Constraint k = One role.Example
due_after CheckSynth k = One role.Anything

abbrev pub due_in_command : Option Head → ℕ → Due
due_in_command None k = One role.Anything
due_in_command (Some head) k = if nat_eq k 0 then One role.Symbol else due_after head k

-- `(s (pair ..) Bool)`
abbrev pub due_in_declaration : ℕ → Due
due_in_declaration k = if nat_eq k 0 then One role.Symbol else first_of_two (Many role.Pair) (One role.BoolName) k

-- `(! (match ..) A A)`, where an A is a keyword and a list of symbols
abbrev pub due_in_definition : ℕ → Due
due_in_definition k =
    if nat_eq k 0 then One role.Symbol
    else if nat_eq k 1 then One role.Match
    else if nat_eq k 3 then Many role.Symbol
    else if nat_eq k 5 then Many role.Symbol
    else One role.Anything

-- `(match s (case ..))`
abbrev pub due_in_match : ℕ → Due
due_in_match k = if nat_eq k 2 then Many role.Case else One role.Symbol

-- `(pattern body)`
abbrev pub due_in_case : ℕ → Due
due_in_case k = if nat_eq k 0 then One role.Constructor else One role.Body

-- `(s s (production ..))`
abbrev pub due_in_nonterminal : ℕ → Due
due_in_nonterminal k = if nat_eq k 2 then Many role.Production else One role.Symbol

-- the name that the items begin with, empty where they begin with no symbol
abbrev pub name_at_front : List Sexpr → List ℕ
name_at_front [] = []
name_at_front (first ∷ others) = unwrap_or (symbol_of first) []

-- what is due in place k of a form of this role with these items
abbrev pub due_in_role : Role → List Sexpr → ℕ → Due
due_in_role role.Anything items k = One role.Anything
due_in_role role.Keyword items k = One role.Anything
due_in_role role.Symbol items k = One role.Anything
due_in_role role.Numeral items k = One role.Anything
due_in_role role.Zero items k = One role.Anything
due_in_role role.BoolName items k = One role.Anything
due_in_role role.Nothing items k = One role.Anything
due_in_role role.Command items k = due_in_command (head_of items) k
due_in_role role.TypeName items k = after_symbol role.Zero k
due_in_role role.Group items k = One role.Constructor
due_in_role role.Constructor items k = One role.Symbol
due_in_role role.Declaration items k = due_in_declaration k
due_in_role role.Pair items k = One role.Symbol
due_in_role role.Definition items k = due_in_definition k
due_in_role role.Match items k = due_in_match k
due_in_role role.Case items k = due_in_case k
due_in_role role.Body items k = due_in_body (name_at_front items) k
due_in_role role.Conjunct items k = due_in_conjunct (name_at_front items) k
due_in_role role.Expression items k = after_symbol role.Expression k
due_in_role role.Nonterminal items k = due_in_nonterminal k
due_in_role role.Production items k = after_symbol role.ProductionArgument k
due_in_role role.ProductionArgument items k = One role.Anything
due_in_role role.Example items k = due_in_example (name_at_front items) k
due_in_role role.ExampleArgument items k = after_symbol role.Numeral k

abbrev pub due_in : Due → List Sexpr → ℕ → Due
due_in (One r) items k = due_in_role r items k
due_in (Many r) items k = One r
