-- The nodes of a command that are of a wrong sort or type (reason 30), and the numbers out of range (reason 31).
use Rattle.std.specs.Prelude.{ℕ, Bool, true, false, not, ◌&&◌, ◌||◌, nat_eq, if◌then◌else◌, Option, Some, None, unwrap_or, option_map, List, [], ◌∷◌, ◌++◌, map, length, slice_get}
use Rattle.std.specs.Option.{option_map_or, option_flatten}
use Rattle.std.specs.List.{flat_map, list_all}
use Rattle.sig_core.specs.declared.ids.TypeId.{TypeId}
use Rattle.sig_core.specs.declared.signature.Constructor.{Constructor}
use Rattle.sig_core.specs.declared.signature.Kind.{Kind}
use Rattle.sig_core.specs.declared.signature.Kind.TheVariants.{Term, Input, Output}
use Rattle.sig_core.specs.declared.value.Sort.{Sort}
use Rattle.sig_core.specs.declared.value.Sort.TheVariants as sort
use Rattle.sig_core.specs.Names.{same_name}
use Rattle.sig_core.specs.Signatures.{Declarations, kinds_of}
use Rattle.sig_core.specs.Values.{same_sort}
use Rattle.sig_core.specs.WellFormed.{constructor_names, term_types}
use Rattle.sexpr_core.specs.declared.form.Sexpr.{Sexpr}
use Rattle.sexpr_core.specs.Access.{item_of, others_of}
use Rattle.sexpr_core.specs.Access as access
use Rattle.expr_core.specs.declared.expr.Op.{Op}
use Rattle.expr_core.specs.declared.expr.Op.TheVariants.{Not, And, Or, Xor, Implies, Equal, Distinct, Ite, Add, Minus, Times, Div, Mod, Abs}
use Rattle.rule_core.specs.Flow.{same_type, type_at}
use Rattle.syntax_core.specs.declared.commands.Head.{Head}
use Rattle.syntax_core.specs.declared.commands.Head.TheVariants.{SetInfo, DeclareTermTypes, DefineFunsRec, SynthFun, Constraint, CheckSynth}
use Rattle.syntax_core.specs.declared.fault.Fault.{Fault}
use Rattle.syntax_core.specs.declared.syntax.Application.{Application}
use Rattle.syntax_core.specs.declared.syntax.Case.{Case}
use Rattle.syntax_core.specs.declared.syntax.Exp.{Exp}
use Rattle.syntax_core.specs.declared.syntax.Function.{Function}
use Rattle.syntax_core.specs.declared.syntax.Pair.{Pair}
use Rattle.syntax_core.specs.declared.syntax.Pattern.{Pattern}
use Rattle.syntax_core.specs.Literals.{digits_place, is_out_of_range, literal_of, place_of_exp, sort_of_literal}
use Rattle.syntax_core.specs.Syntax.{atom_of, calls_of, deepest, functions_of, items_at, name_of, nonterminals_of, symbol_of_exp}
use Rattle.sort_core.specs.declared.open.OpenExp.{OpenExp}
use Rattle.sort_core.specs.declared.open.OpenNode.{OpenNode, out-OpenNode}
use Rattle.sort_core.specs.declared.open.OpenNode.TheFolds.{fold-OpenNode}
use Rattle.sort_core.specs.declared.open.OpenNode.TheOpen.{OpenNode-F, OpenExp-F}
use Rattle.sort_core.specs.declared.branch.OpenBranch.{OpenBranch}
use Rattle.sort_core.specs.Branches.{open_branches}
use Rattle.name_core.specs.Faults.{bad_if, found_from}
use Rattle.name_core.specs.Names.{groups_of, plain_pairs, term_pairs}
use Rattle.sort_core.specs.Opens.{number_named, relation_named}
use Rattle.sort_core.specs.Relations.{child_type, declared_with, sort_named, sort_of_pair, type_named}
use Rattle.name_core.specs.States.{State, Wanted}

-- Operators. The sort of a variable for terms is neither Int nor Bool: none.

-- the sort that the operator wants of each operand, where it doesn't depend on the operands
abbrev pub operand_sort : Op → Sort
operand_sort Not = sort.Bool
operand_sort And = sort.Bool
operand_sort Or = sort.Bool
operand_sort Xor = sort.Bool
operand_sort Implies = sort.Bool
operand_sort _ = sort.Int

abbrev pub stated_at : List (Option Sort) → ℕ → Option Sort
stated_at stated k = option_flatten (slice_get stated k)

-- the sort that the operator wants of operand k, where these are the stated sorts of its operands
abbrev pub wanted_sort : Op → List (Option Sort) → ℕ → Option Sort
wanted_sort Equal stated k = stated_at stated 0
wanted_sort Distinct stated k = stated_at stated 0
wanted_sort Ite stated k = if nat_eq k 0 then Some sort.Bool else stated_at stated 1
wanted_sort op stated k = Some (operand_sort op)

-- the sort that the operator states
abbrev pub stated_sort : Op → List (Option Sort) → Option Sort
stated_sort Ite stated = stated_at stated 1
stated_sort Add stated = Some sort.Int
stated_sort Minus stated = Some sort.Int
stated_sort Times stated = Some sort.Int
stated_sort Div stated = Some sort.Int
stated_sort Mod stated = Some sort.Int
stated_sort Abs stated = Some sort.Int
stated_sort op stated = Some sort.Bool

abbrev pub same_stated : Option Sort → Option Sort → Bool
same_stated (Some s) (Some t) = same_sort s t
same_stated None None = true
same_stated _ _ = false

-- Expressions.

-- an expression: its place, the sort that it states, whether it is bad at every operand place, as a variable for terms and
-- a call are, and the faults that it has wherever it stands
pub record Survey : Type 0 where
  pub place : ℕ
  pub stated : Option Sort
  pub is_misplaced : Bool
  pub inner : List Fault

-- the faults of an expression where this sort is wanted
abbrev pub faults_as : Option Sort → Survey → List Fault
faults_as want e = bad_if (not (same_stated want e.stated) || e.is_misplaced) 30 e.place ++ e.inner

-- operand k of an operator with these operands
unfoldable pub operand_faults_at : Op → List Survey → ℕ → Survey → List Fault
operand_faults_at op kids k kid = faults_as (wanted_sort op (map (λ e. e.stated) kids) k) kid

abbrev pub operand_faults : Op → List Survey → List Fault
operand_faults op kids = found_from (operand_faults_at op kids) 0 kids

abbrev pub survey_step : List Sort → OpenNode-F (ℕ → Survey) Survey → ℕ → Survey
survey_step slots (OpenNode-F.Slot k) = λ place. record { place = place; stated = slice_get slots k; is_misplaced = false; inner = [] }
survey_step slots (OpenNode-F.Term who) = λ place. record { place = place; stated = None; is_misplaced = true; inner = [] }
survey_step slots (OpenNode-F.Literal digits literal) =
    λ place. record { place = place; stated = Some (sort_of_literal literal); is_misplaced = false; inner = bad_if (is_out_of_range literal) 31 digits }
survey_step slots (OpenNode-F.Apply op kids) =
    λ place. record { place = place; stated = stated_sort op (map (λ e. e.stated) kids); is_misplaced = false; inner = operand_faults op kids }
survey_step slots (OpenNode-F.Call relation args) =
    λ place. record { place = place; stated = Some sort.Bool; is_misplaced = true; inner = flat_map (λ e. e.inner) args }

abbrev pub survey_at : OpenExp-F (ℕ → Survey) Survey → Survey
survey_at e = e.node e.place

abbrev pub survey_of_node : List Sort → OpenNode → ℕ → Survey
survey_of_node slots = fold-OpenNode (ℕ → Survey) Survey (survey_step slots) survey_at

-- an expression over slots of these sorts
abbrev pub survey : List Sort → OpenExp → Survey
survey slots e = survey_of_node slots e.node e.place

-- Atoms.

abbrev pub is_term_in : Option Constructor → TypeId → OpenNode-F OpenNode OpenExp → Bool
is_term_in con t (OpenNode-F.Term who) = same_type (type_at con who) (Some t)
is_term_in con t _ = false

-- the expression is the term of this constructor or one of its children, of this type
abbrev pub is_term_of : Option Constructor → TypeId → OpenExp → Bool
is_term_of con t e = is_term_in con t (out-OpenNode e.node)

-- the argument of a call for a parameter of this kind, if there is one
abbrev pub argument_faults : Option Constructor → List Sort → Option Kind → OpenExp → List Fault
argument_faults con slots None e = (survey slots e).inner
argument_faults con slots (Some (Term t)) e = bad_if (not (is_term_of con t e)) 30 e.place ++ (survey slots e).inner
argument_faults con slots (Some (Input s)) e = faults_as (Some s) (survey slots e)
argument_faults con slots (Some (Output s)) e = faults_as (Some s) (survey slots e)

-- argument k of a call
unfoldable pub argument_faults_at : Option Constructor → List Sort → List Kind → ℕ → OpenExp → List Fault
argument_faults_at con slots kinds k e = argument_faults con slots (slice_get kinds k) e

abbrev pub call_faults : Option Constructor → List Sort → List Kind → ℕ → List OpenExp → List Fault
call_faults con slots kinds place args = bad_if (not (nat_eq (length args) (length kinds))) 30 place ++ found_from (argument_faults_at con slots kinds) 0 args

abbrev pub atom_faults_in : Declarations → Option Constructor → List Sort → OpenExp → OpenNode-F OpenNode OpenExp → List Fault
atom_faults_in sig con slots e (OpenNode-F.Call relation args) = call_faults con slots (kinds_of sig relation) e.place args
atom_faults_in sig con slots e _ = faults_as (Some sort.Bool) (survey slots e)

-- an atom is a call, or an expression that states Bool
abbrev pub atom_faults : Declarations → Option Constructor → List Sort → OpenExp → List Fault
atom_faults sig con slots e = atom_faults_in sig con slots e (out-OpenNode e.node)

-- Functions.

abbrev pub constructor_at : Declarations → List ℕ → Option Constructor
constructor_at sig name = slice_get sig.constructors (number_named (constructor_names sig.constructors) name)

-- the constructor makes terms of this type from so many children
abbrev pub makes : TypeId → ℕ → Option Constructor → Bool
makes type count con = option_map_or (λ c. nat_eq c.owner.0 type.0 && nat_eq (length c.args) count) con false

abbrev pub sorts_of : List Pair → List Sort
sorts_of pairs = map (λ pair. sort_named pair.sort.bytes) pairs

-- the atoms of a branch, where the slots before its existentials are of these sorts
abbrev pub branch_faults : Declarations → Option Constructor → List Sort → OpenBranch → List Fault
branch_faults sig con slots branch = flat_map (atom_faults sig con (slots ++ sorts_of branch.around)) branch.atoms

-- a pattern, where terms of this type are matched
abbrev pub pattern_faults : Declarations → TypeId → Pattern → List Fault
pattern_faults sig type pattern = bad_if (not (makes type (length pattern.variables) (constructor_at sig pattern.name.bytes))) 30 pattern.place

abbrev pub case_faults : Declarations → Function → TypeId → Case → List Fault
case_faults sig f type case =
    pattern_faults sig type case.pattern
    ++ flat_map (branch_faults sig (constructor_at sig case.pattern.name.bytes) (sorts_of (plain_pairs f.declaration.params))) (open_branches sig f case)

-- the type of the matched term
abbrev pub matched_type : Declarations → Function → TypeId
matched_type sig f = type_named sig (unwrap_or (sort_of_pair f.declaration.params f.definition.matched.bytes) [])

abbrev pub declaration_faults : Function → List Fault
declaration_faults f = bad_if (not (nat_eq (length (term_pairs f.declaration.params)) 1)) 30 f.declaration.place

abbrev pub definition_faults : Declarations → Function → List Fault
definition_faults sig f = flat_map (case_faults sig f (matched_type sig f)) f.definition.cases

-- the functions, after the signature with all of them
abbrev pub functions_faults : Declarations → List Function → List Fault
functions_faults sig functions = flat_map declaration_faults functions ++ flat_map (definition_faults sig) functions

-- Grammars.

abbrev pub production_argument : Declarations → List Pair → Option Constructor → ℕ → Sexpr → List Fault
production_argument sig pairs con k form =
    bad_if (not (same_type (option_map (λ name. type_named sig name) (sort_of_pair pairs (atom_of form).bytes)) (child_type con k))) 30 (access.place_of form)

abbrev pub production_faults : Declarations → List Pair → TypeId → Sexpr → List Fault
production_faults sig pairs type form =
    bad_if (not (makes type (length (others_of form)) (constructor_at sig (name_of form).bytes))) 30 (access.place_of form)
    ++ found_from (production_argument sig pairs (constructor_at sig (name_of form).bytes)) 0 (others_of form)

-- a group, which is of the type that is declared at its number
abbrev pub group_faults : Declarations → List Pair → Pair × Sexpr → List Fault
group_faults sig pairs (pair, group) =
    bad_if (not (same_name pair.sort.bytes (atom_of (item_of 1 group)).bytes)) 30 (access.place_of (item_of 1 group))
    ++ flat_map (production_faults sig pairs (type_named sig pair.sort.bytes)) (items_at 2 group)

-- the start is of the type of the wanted function
abbrev pub start_faults : List ℕ → List Pair → List Fault
start_faults type [] = []
start_faults type (pair ∷ pairs) = bad_if (not (same_name type pair.sort.bytes)) 30 pair.sort.place

abbrev pub wanted_faults : Declarations → Sexpr → List Fault
wanted_faults sig form =
    start_faults (atom_of (item_of 3 form)).bytes (nonterminals_of form) ++ flat_map (group_faults sig (nonterminals_of form)) (groups_of form)

-- Examples.

abbrev pub range_faults : Exp → List Fault
range_faults e = bad_if (option_map_or is_out_of_range (literal_of e) false) 31 (digits_place e)

abbrev pub is_literal_of : Sort → Exp → Bool
is_literal_of s e = option_map_or (λ literal. same_sort s (sort_of_literal literal)) (literal_of e) false

abbrev pub is_wanted_name : List ℕ → Exp → Bool
is_wanted_name wanted e = option_map_or (λ a. same_name wanted a.bytes) (symbol_of_exp e) false

-- an argument for a parameter of this kind: the wanted function for a term, and else a literal of the sort
abbrev pub example_argument : List ℕ → Option Kind → Exp → List Fault
example_argument wanted None e = range_faults e
example_argument wanted (Some (Term t)) e = if is_wanted_name wanted e then [] else bad_if true 30 (place_of_exp e) ++ range_faults e
example_argument wanted (Some (Input s)) e = bad_if (not (is_literal_of s e)) 30 (place_of_exp e) ++ range_faults e
example_argument wanted (Some (Output s)) e = bad_if (not (is_literal_of s e)) 30 (place_of_exp e) ++ range_faults e

-- argument k of an example
unfoldable pub example_argument_at : List ℕ → List Kind → ℕ → Exp → List Fault
example_argument_at wanted kinds k e = example_argument wanted (slice_get kinds k) e

-- the terms among the parameters are of this type
abbrev pub are_of_type : TypeId → List Kind → Bool
are_of_type type kinds = list_all (λ t. nat_eq t.0 type.0) (term_types kinds)

-- an example, where the wanted function has this name and type
abbrev pub example_faults : List ℕ → TypeId → List Kind → Application → List Fault
example_faults wanted type kinds call =
    bad_if (not (are_of_type type kinds && nat_eq (length call.args) (length kinds))) 30 call.place ++ found_from (example_argument_at wanted kinds) 0 call.args

abbrev pub kinds_named : Declarations → List ℕ → List Kind
kinds_named sig name = kinds_of sig (relation_named sig name)

abbrev pub example_faults_of : Declarations → List ℕ → TypeId → Application → List Fault
example_faults_of sig wanted type call = example_faults wanted type (kinds_named sig call.head.bytes) call

abbrev pub examples_faults : Declarations → Option Wanted → List Application → List Fault
examples_faults sig None calls = []
examples_faults sig (Some wanted) calls = flat_map (example_faults_of sig wanted.name wanted.type) calls

-- the nodes of a command that are of a wrong sort
abbrev pub sorts : State → Head → Sexpr → List Fault
sorts s SetInfo form = []
sorts s DeclareTermTypes form = []
sorts s DefineFunsRec form = functions_faults (declared_with s.signature (functions_of form)) (functions_of form)
sorts s SynthFun form = wanted_faults s.signature form
sorts s Constraint form = examples_faults s.signature s.wanted (calls_of deepest (item_of 1 form))
sorts s CheckSynth form = []
