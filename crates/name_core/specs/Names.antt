-- The symbols of a command that are wrongly names: taken already (reason 21), unknown (reason 20), or of a production that
-- can't be had (reason 13).
use Rattle.std.specs.Prelude.{ℕ, Bool, not, ◌||◌, if◌then◌else◌, Option, Some, None, is_some, is_none, List, [], ◌∷◌, ◌++◌, map, filter, codes}
use Rattle.std.specs.Option.{option_map_or}
use Rattle.std.specs.List.{flat_map, list_all, zip}
use Rattle.sig_core.specs.Names.{same_name, is_reserved, place_of}
use Rattle.sig_core.specs.Signatures.{Declarations}
use Rattle.sig_core.specs.WellFormed.{constructor_names, relation_names}
use Rattle.sexpr_core.specs.declared.form.Atom.{Atom}
use Rattle.sexpr_core.specs.declared.form.Sexpr.{Sexpr}
use Rattle.sexpr_core.specs.Access.{symbol_of, parts_of, item_of, others_of}
use Rattle.sexpr_core.specs.Access as access
use Rattle.syntax_core.specs.declared.commands.Head.{Head}
use Rattle.syntax_core.specs.declared.commands.Head.TheVariants.{SetInfo, DeclareTermTypes, DefineFunsRec, SynthFun, Constraint, CheckSynth}
use Rattle.syntax_core.specs.declared.fault.Fault.{Fault}
use Rattle.syntax_core.specs.declared.syntax.Application.{Application}
use Rattle.syntax_core.specs.declared.syntax.Case.{Case}
use Rattle.syntax_core.specs.declared.syntax.Definition.{Definition}
use Rattle.syntax_core.specs.declared.syntax.Exp.{Exp}
use Rattle.syntax_core.specs.declared.syntax.Exp.TheFolds.{fold-Exp}
use Rattle.syntax_core.specs.declared.syntax.Exp.TheOpen.{Exp-F, Application-F}
use Rattle.syntax_core.specs.declared.syntax.Function.{Function}
use Rattle.syntax_core.specs.declared.syntax.Pair.{Pair}
use Rattle.syntax_core.specs.declared.syntax.Pattern.{Pattern}
use Rattle.syntax_core.specs.Literals.{literal_named}
use Rattle.syntax_core.specs.Roles.{operator_named}
use Rattle.syntax_core.specs.Shapes.{refusal}
use Rattle.syntax_core.specs.Syntax.{atom_of, calls_of, deepest, functions_of, items_at, nonterminals_of, pattern_of, symbol_of_exp, type_names}
use Rattle.name_core.specs.Bodies.{Node, bound, leaf, nodes_of}
use Rattle.name_core.specs.Faults.{bad_if, found}
use Rattle.name_core.specs.States.{State, Wanted}

abbrev pub has : List (List ℕ) → List ℕ → Bool
has names name = is_some (place_of names name)

abbrev pub texts : List Atom → List (List ℕ)
texts symbols = map (λ a. a.bytes) symbols

abbrev pub names_in : List Pair → List (List ℕ)
names_in pairs = map (λ pair. pair.name.bytes) pairs

-- `Int` or `Bool`
abbrev pub is_sort : List ℕ → Bool
is_sort name = same_name (codes "Int") name || same_name (codes "Bool") name

-- the symbol is none of these names, or is one of them
abbrev pub unknown_name : List (List ℕ) → Atom → List Fault
unknown_name known name = bad_if (not (has known name.bytes)) 20 name.place

abbrev pub taken_name : List (List ℕ) → Atom → List Fault
taken_name taken name = bad_if (has taken name.bytes) 21 name.place

-- the symbol is one of these names, or a reserved word
abbrev pub unfit_name : List (List ℕ) → Atom → List Fault
unfit_name taken name = bad_if (has taken name.bytes || is_reserved name.bytes) 21 name.place

-- Types and constructors.

-- the constructors of all groups, each read as a pattern whose variables are the argument types
abbrev pub constructors_in : Sexpr → List Pattern
constructors_in form = map pattern_of (flat_map parts_of (items_at 2 form))

abbrev pub sort_names : List (List ℕ)
sort_names = codes "Int" ∷ codes "Bool" ∷ []

abbrev pub types_names : Declarations → Sexpr → List Fault
types_names sig form =
    found (λ before name. taken_name (sig.types ++ texts before ++ sort_names) name) (type_names form)
    ++ found (λ before con. taken_name (constructor_names sig.constructors ++ map (λ c. c.name.bytes) before) con.name
    ++ flat_map (unknown_name (sig.types ++ texts (type_names form))) con.variables) (constructors_in form)

-- Relations, and what their definitions use.

abbrev pub is_plain : Pair → Bool
is_plain pair = is_sort pair.sort.bytes

-- the parameters that aren't terms, and those that are
abbrev pub plain_pairs : List Pair → List Pair
plain_pairs pairs = filter is_plain pairs

abbrev pub term_pairs : List Pair → List Pair
term_pairs pairs = filter (λ pair. not (is_plain pair)) pairs

abbrev pub function_names : List Function → List (List ℕ)
function_names functions = map (λ f. f.declaration.name.bytes) functions

abbrev pub parameter_names : Declarations → List Pair → Pair → List Fault
parameter_names sig before pair = unfit_name (names_in before) pair.name ++ unknown_name (sig.types ++ sort_names) pair.sort

abbrev pub declaration_names : Declarations → List Function → Function → List Fault
declaration_names sig before f =
    unfit_name (relation_names sig.relations ++ function_names before) f.declaration.name ++ found (parameter_names sig) f.declaration.params

-- a symbol is a variable or a literal, and the head of a list an operator or a relation
abbrev pub expression_step : List (List ℕ) → List (List ℕ) → Exp-F (List Fault) (List Fault) → List Fault
expression_step relations scope (Exp-F.Symbol a) = bad_if (not (has scope a.bytes || is_some (literal_named a.bytes))) 20 a.place
expression_step relations scope (Exp-F.Numeral a) = []
expression_step relations scope (Exp-F.Negative n) = []
expression_step relations scope (Exp-F.Apply inside) = inside

abbrev pub application_names : List (List ℕ) → Application-F (List Fault) (List Fault) → List Fault
application_names relations app = bad_if (not (is_some (operator_named app.head.bytes) || has relations app.head.bytes)) 20 app.head.place ++ flat_map (λ faults. faults) app.args

-- an expression, where these are the relations and the variables
abbrev pub expression_names : List (List ℕ) → List (List ℕ) → Exp → List Fault
expression_names relations scope = fold-Exp (List Fault) (List Fault) (expression_step relations scope) (application_names relations)

-- a node of a body, where these are the relations and the variables around the body
abbrev pub node_names : List (List ℕ) → List (List ℕ) → Node → List Fault
node_names relations scope (bound around pair) = unfit_name (scope ++ names_in around) pair.name ++ unknown_name sort_names pair.sort
node_names relations scope (leaf around l) = flat_map (expression_names relations (scope ++ names_in around)) l.atoms

abbrev pub case_names : Declarations → List (List ℕ) → List (List ℕ) → Case → List Fault
case_names sig relations scope case =
    unknown_name (constructor_names sig.constructors) case.pattern.name
    ++ found (λ before variable. unfit_name (scope ++ texts before) variable) case.pattern.variables
    ++ flat_map (node_names relations (scope ++ texts case.pattern.variables)) (nodes_of case)

-- the names in the two lists of attributes, in their order
abbrev pub attributes_of : Definition → List Atom
attributes_of d = if d.has_outputs_first then d.outputs ++ d.inputs else d.inputs ++ d.outputs

abbrev pub attribute_names : List Pair → List Atom → Atom → List Fault
attribute_names params before name = unknown_name (names_in (plain_pairs params)) name ++ taken_name (texts before) name

-- each parameter that isn't a term stands in one of the lists
abbrev pub are_listed : Function → Bool
are_listed f = list_all (has (texts (attributes_of f.definition))) (names_in (plain_pairs f.declaration.params))

abbrev pub definition_names : Declarations → List (List ℕ) → Function → List Fault
definition_names sig relations f =
    bad_if (not (are_listed f)) 20 f.definition.place
    ++ unknown_name (names_in (term_pairs f.declaration.params)) f.definition.matched
    ++ flat_map (case_names sig relations (names_in f.declaration.params)) f.definition.cases
    ++ found (attribute_names f.declaration.params) (attributes_of f.definition)

abbrev pub functions_names : Declarations → List Function → List Fault
functions_names sig functions =
    found (declaration_names sig) functions
    ++ flat_map (definition_names sig (relation_names sig.relations ++ function_names functions)) functions

-- Grammars.

-- the nonterminals, each with its group
abbrev pub groups_of : Sexpr → List (Pair × Sexpr)
groups_of form = zip (nonterminals_of form) (items_at 5 form)

abbrev pub nonterminal_names : Declarations → List Pair → Pair → List Fault
nonterminal_names sig before pair = taken_name (names_in before ++ constructor_names sig.constructors) pair.name ++ unknown_name sig.types pair.sort

-- the form is a symbol of the first names; one of the others can't be had there, and nor can a list
abbrev pub unhad_name : List (List ℕ) → List (List ℕ) → Sexpr → List Fault
unhad_name wanted others form =
    if is_none (symbol_of form) then refusal (access.place_of form) 13 ∷ []
    else if has wanted (atom_of form).bytes then []
    else refusal (access.place_of form) (if has others (atom_of form).bytes then 13 else 20) ∷ []

-- a production, where these are the nonterminals and the constructors
abbrev pub production_names : List (List ℕ) → List (List ℕ) → Sexpr → List Fault
production_names nonterminals constructors form =
    if is_some (symbol_of form) then unhad_name constructors nonterminals form
    else unknown_name constructors (atom_of (item_of 0 form)) ++ flat_map (unhad_name nonterminals constructors) (others_of form)

-- a group, which has the name that is declared at its number
abbrev pub group_names : Declarations → List (List ℕ) → Pair × Sexpr → List Fault
group_names sig nonterminals (pair, group) =
    unknown_name (pair.name.bytes ∷ []) (atom_of (item_of 0 group)) ++ unknown_name sig.types (atom_of (item_of 1 group))
    ++ flat_map (production_names nonterminals (constructor_names sig.constructors)) (items_at 2 group)

abbrev pub wanted_names : Declarations → Sexpr → List Fault
wanted_names sig form =
    unknown_name sig.types (atom_of (item_of 3 form))
    ++ found (nonterminal_names sig) (nonterminals_of form)
    ++ flat_map (group_names sig (names_in (nonterminals_of form))) (groups_of form)

-- Examples.

-- an argument that is a symbol is the wanted function or a literal
abbrev pub argument_names : List ℕ → Exp → List Fault
argument_names wanted e = option_map_or (λ a. bad_if (not (same_name wanted a.bytes || is_some (literal_named a.bytes))) 20 a.place) (symbol_of_exp e) []

abbrev pub call_names : Declarations → List ℕ → Application → List Fault
call_names sig wanted call = unknown_name (relation_names sig.relations) call.head ++ flat_map (argument_names wanted) call.args

abbrev pub example_names : Declarations → Option Wanted → List Application → List Fault
example_names sig None calls = []
example_names sig (Some wanted) calls = flat_map (call_names sig wanted.name) calls

-- the wrong names of a command
abbrev pub names : State → Head → Sexpr → List Fault
names s SetInfo form = []
names s DeclareTermTypes form = types_names s.signature form
names s DefineFunsRec form = functions_names s.signature (functions_of form)
names s SynthFun form = wanted_names s.signature form
names s Constraint form = example_names s.signature s.wanted (calls_of deepest (item_of 1 form))
names s CheckSynth form = []
