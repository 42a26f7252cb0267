-- The nodes of a command that pass a limit. Numbers count from 0, so that a limit of n is passed at the number n.
use Rattle.std.specs.Prelude.{ℕ, ◌+◌, nat_le, if◌then◌else◌, is_some, List, [], ◌∷◌, ◌++◌, length}
use Rattle.std.specs.List.{flat_map}
use Rattle.sexpr_core.specs.declared.form.Atom.{Atom}
use Rattle.sexpr_core.specs.declared.form.Sexpr.{Sexpr}
use Rattle.sexpr_core.specs.Access.{place_of, symbol_of, item_of, others_of, parts_of}
use Rattle.syntax_core.specs.declared.commands.Head.{Head}
use Rattle.syntax_core.specs.declared.commands.Head.TheVariants.{SetInfo, DeclareTermTypes, DefineFunsRec, SynthFun, Constraint, CheckSynth}
use Rattle.syntax_core.specs.declared.fault.Fault.{Fault}
use Rattle.syntax_core.specs.declared.syntax.Application.{Application}
use Rattle.syntax_core.specs.declared.syntax.Declaration.{Declaration}
use Rattle.syntax_core.specs.declared.syntax.Function.{Function}
use Rattle.syntax_core.specs.declared.syntax.Pair.{Pair}
use Rattle.syntax_core.specs.Syntax.{atom_of, calls_of, deepest, functions_of, items_at, name_of, nonterminals_of, type_names}
use Rattle.name_core.specs.Bodies.{Node, Site, bound, leaf, leaf_count, nodes_of, rule_count, sites_of}
use Rattle.name_core.specs.Faults.{found, found_from, past}
use Rattle.name_core.specs.States.{State}

-- a declared name has at most 1,024 bytes
abbrev pub long_name : Atom → List Fault
long_name name = if nat_le (length name.bytes) 1024 then [] else record { place = name.place; reason = 50; limit = 4 } ∷ []

abbrev pub type_limits : ℕ → Atom → List Fault
type_limits n name = long_name name ++ past 256 5 n name.place

-- where a constructor is a symbol, its node is that of its name, and else the name is right of it
abbrev pub constructor_limits : ℕ → Sexpr → List Fault
constructor_limits n form =
    if is_some (symbol_of form) then long_name (atom_of form) ++ past 4096 6 n (place_of form)
    else past 4096 6 n (place_of form) ++ past 17 7 (length (others_of form)) (place_of form) ++ long_name (name_of form)

-- a pair of a name and a sort or a type
abbrev pub pair_limits : ℕ → ℕ → ℕ → Pair → List Fault
pair_limits most limit n pair = past most limit n pair.place ++ long_name pair.name

-- pairs of which the first has this number
abbrev pub pairs_limits : ℕ → ℕ → ℕ → List Pair → List Fault
pairs_limits most limit n pairs = found_from (pair_limits most limit) n pairs

-- types and constructors, of which so many come before
abbrev pub types_limits : ℕ → ℕ → Sexpr → List Fault
types_limits types constructors form =
    found_from type_limits types (type_names form) ++ found_from constructor_limits constructors (flat_map parts_of (items_at 2 form))

abbrev pub declaration_limits : ℕ → Declaration → List Fault
declaration_limits n d = past 256 8 n d.place ++ long_name d.name ++ pairs_limits 32 9 0 d.params

-- a node of a body, where the relation has so many parameters and so many rules come before those of the nodes before it
abbrev pub node_limits : ℕ → ℕ → List Node → Node → List Fault
node_limits params rules before (bound around pair) = pair_limits 64 10 (params + length around) pair
node_limits params rules before (leaf around l) = past 16384 11 (rules + leaf_count before) l.place

abbrev pub case_limits : ℕ → Site → List Fault
case_limits rules site =
    flat_map long_name site.case.pattern.variables ++ found (node_limits (length site.function.declaration.params) rules) (nodes_of site.case)

-- functions, before which so many relations and rules come
abbrev pub functions_limits : ℕ → ℕ → List Function → List Fault
functions_limits relations rules functions =
    found_from (λ n f. declaration_limits n f.declaration) relations functions
    ++ found (λ before site. case_limits (rules + rule_count before) site) (sites_of functions)

abbrev pub production_limits : ℕ → Sexpr → List Fault
production_limits n form = past 4096 13 n (place_of form)

abbrev pub wanted_limits : Sexpr → List Fault
wanted_limits form =
    long_name (atom_of (item_of 1 form)) ++ pairs_limits 256 12 0 (nonterminals_of form) ++ found_from production_limits 0 (flat_map (items_at 2) (items_at 5 form))

abbrev pub call_limits : ℕ → Application → List Fault
call_limits n call = past 1024 14 n call.place

-- the nodes of a command that pass a limit
abbrev pub limits : State → Head → Sexpr → List Fault
limits s SetInfo form = []
limits s DeclareTermTypes form = types_limits (length s.signature.types) (length s.signature.constructors) form
limits s DefineFunsRec form = functions_limits (length s.signature.relations) (length s.rules) (functions_of form)
limits s SynthFun form = wanted_limits form
limits s Constraint form = found_from call_limits (length s.constraints) (calls_of deepest (item_of 1 form))
limits s CheckSynth form = []
