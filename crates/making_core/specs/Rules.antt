-- The rules that functions make, and their data flow.
use Rattle.std.specs.Prelude.{ℕ, pos, ◌-◌, ◌≤◌, false, not, ◌&&◌, nat_eq, if◌then◌else◌, Option, Some, None, unwrap_or, option_map, option_and_then, List, [], ◌∷◌, map, length, slice_get, All}
use Rattle.std.specs.Option.{option_map_or, option_to_list}
use Rattle.std.specs.List.{flat_map}
use Rattle.sig_core.specs.declared.ids.ConId.{ConId}
use Rattle.sig_core.specs.declared.ids.RelId.{RelId}
use Rattle.sig_core.specs.declared.signature.Kind.{Kind}
use Rattle.sig_core.specs.declared.signature.Kind.TheVariants.{Term, Input, Output}
use Rattle.sig_core.specs.declared.value.Value.{Value}
use Rattle.sig_core.specs.declared.value.Value.TheVariants as value
use Rattle.sig_core.specs.Signatures.{Declarations, input_slots, kinds_of, plain_sorts}
use Rattle.expr_core.specs.declared.expr.Expr.{Expr, out-Expr}
use Rattle.expr_core.specs.declared.expr.Expr as expr
use Rattle.expr_core.specs.declared.expr.Op.TheVariants.{Equal}
use Rattle.rule_core.specs.declared.flow.FlowFault.{FlowFault}
use Rattle.rule_core.specs.declared.rule.Atom.{Atom}
use Rattle.rule_core.specs.declared.rule.Atom.TheVariants as atom
use Rattle.rule_core.specs.declared.rule.Rule.{Rule}
use Rattle.rule_core.specs.declared.rule.Var.{Var}
use Rattle.rule_core.specs.declared.rule.Who.{Who}
use Rattle.rule_core.specs.declared.rule.Who.TheVariants.{Own}
use Rattle.rule_core.specs.Rulebooks.{IsRuleOf}
use Rattle.rule_core.specs.Flow.{bare_slot, flow_fault, is_in, is_known, known_after}
use Rattle.syntax_core.specs.declared.fault.Fault.{Fault}
use Rattle.syntax_core.specs.declared.literal.Literal.{Literal}
use Rattle.syntax_core.specs.declared.literal.Literal.TheVariants.{Number, Truth}
use Rattle.syntax_core.specs.declared.syntax.Function.{Function}
use Rattle.syntax_core.specs.declared.syntax.Pair.{Pair}
use Rattle.syntax_core.specs.Shapes.{refusal}
use Rattle.sort_core.specs.declared.open.OpenExp.{OpenExp}
use Rattle.sort_core.specs.declared.open.OpenNode.{OpenNode, out-OpenNode}
use Rattle.sort_core.specs.declared.open.OpenNode.TheFolds.{fold-OpenNode}
use Rattle.sort_core.specs.declared.open.OpenNode.TheOpen.{OpenNode-F, OpenExp-F}
use Rattle.sort_core.specs.declared.branch.OpenBranch.{OpenBranch}
use Rattle.sort_core.specs.declared.branch.OpenCase.{OpenCase}
use Rattle.sort_core.specs.Branches.{open_cases}
use Rattle.sort_core.specs.Relations.{declared_with, sort_named}

-- Expressions. What has no value, as a variable for terms, stands in none that is of its sort.

abbrev pub value_of_literal : Literal → Value
value_of_literal (Number n) = value.Int (unwrap_or n (pos 0))
value_of_literal (Truth b) = value.Bool b

abbrev pub expr_step : OpenNode-F Expr Expr → Expr
expr_step (OpenNode-F.Slot k) = expr.Slot k
expr_step (OpenNode-F.Term who) = expr.Lit (value.Bool false)
expr_step (OpenNode-F.Literal place literal) = expr.Lit (value_of_literal literal)
expr_step (OpenNode-F.Apply op kids) = expr.Apply op kids
expr_step (OpenNode-F.Call relation args) = expr.Lit (value.Bool false)

abbrev pub expr_at : OpenExp-F Expr Expr → Expr
expr_at e = e.node

abbrev pub expr_of_node : OpenNode → Expr
expr_of_node = fold-OpenNode Expr Expr expr_step expr_at

-- the expression, without its places
abbrev pub expr_of : OpenExp → Expr
expr_of e = expr_of_node e.node

-- Atoms.

-- the arguments for the parameters that are terms, for inputs, for outputs, and for both of these
abbrev pub term_args : {X : Type 0} → List Kind → List X → List X
term_args (Term t ∷ ks) (x ∷ xs) = x ∷ term_args ks xs
term_args (_ ∷ ks) (x ∷ xs) = term_args ks xs
term_args _ _ = []

abbrev pub input_args : {X : Type 0} → List Kind → List X → List X
input_args (Input s ∷ ks) (x ∷ xs) = x ∷ input_args ks xs
input_args (_ ∷ ks) (x ∷ xs) = input_args ks xs
input_args _ _ = []

abbrev pub output_args : {X : Type 0} → List Kind → List X → List X
output_args (Output s ∷ ks) (x ∷ xs) = x ∷ output_args ks xs
output_args (_ ∷ ks) (x ∷ xs) = output_args ks xs
output_args _ _ = []

abbrev pub plain_args : {X : Type 0} → List Kind → List X → List X
plain_args (Term t ∷ ks) (x ∷ xs) = plain_args ks xs
plain_args (_ ∷ ks) (x ∷ xs) = x ∷ plain_args ks xs
plain_args _ _ = []

abbrev pub who_in : OpenNode-F OpenNode OpenExp → Who
who_in (OpenNode-F.Term who) = who
who_in _ = Own

abbrev pub who_of : List OpenExp → Who
who_of [] = Own
who_of (e ∷ es) = who_in (out-OpenNode e.node)

-- a call of a relation with parameters of these kinds
abbrev pub call_atom : RelId → List Kind → List OpenExp → Atom
call_atom relation kinds args = atom.Call (record {
  relation = relation;
  who = who_of (term_args kinds args);
  inputs = map expr_of (input_args kinds args);
  outputs = map expr_of (output_args kinds args);
})

-- the slot of the one side, where it is a bare unknown variable and the other side is known
abbrev pub filled_slot : List ℕ → Expr → Expr → Option ℕ
filled_slot known one other =
    option_and_then (λ slot. if not (is_in known slot) && is_known known other then Some slot else None) (bare_slot (out-Expr one))

abbrev pub equation_atom : List ℕ → Expr → Expr → Atom
equation_atom known left right =
    option_map_or (λ slot. atom.Fill slot right) (filled_slot known left right)
    (option_map_or (λ slot. atom.Fill slot left) (filled_slot known right left) (atom.Test (expr.Apply Equal (left ∷ right ∷ []))))

abbrev pub atom_in : Declarations → List ℕ → OpenExp → OpenNode-F OpenNode OpenExp → Atom
atom_in sig known e (OpenNode-F.Call relation args) = call_atom relation (kinds_of sig relation) args
atom_in sig known e (OpenNode-F.Apply Equal (left ∷ right ∷ [])) = equation_atom known (expr_of left) (expr_of right)
atom_in sig known e _ = atom.Test (expr_of e)

-- a call, a fill or a test, where these slots are known before it
abbrev pub atom_of : Declarations → List ℕ → OpenExp → Atom
atom_of sig known e = atom_in sig known e (out-OpenNode e.node)

-- The atoms from the left, where these slots are known before the first. The first that uses an unknown variable is the
-- last: the rule is refused for it.
abbrev pub atoms_from : Declarations → List ℕ → List OpenExp → List Atom
atoms_from sig known [] = []
atoms_from sig known (e ∷ es) = atom_of sig known e ∷ option_map_or (λ more. atoms_from sig more es) (known_after known (atom_of sig known e)) []

-- Rules.

abbrev pub var_of : Pair → Var
var_of pair = record { name = pair.name.bytes; sort = sort_named pair.sort.bytes }

-- the rule of a branch, where the children of the constructor have these names
abbrev pub rule_of : Declarations → RelId → ConId → List (List ℕ) → OpenBranch → Rule
rule_of sig relation con kids branch = record {
  relation = relation;
  con = con;
  kid_names = kids;
  more = map var_of branch.around;
  atoms = atoms_from sig (input_slots (kinds_of sig relation)) branch.atoms;
}

-- the rules of a case, in order
abbrev pub case_rules : Declarations → OpenCase → List Rule
case_rules sig case = map (rule_of sig case.relation case.con case.kids) case.branches

-- each branch of the case makes a rule of the signature's
abbrev pub HasRules : Declarations → OpenCase → Type 0
HasRules sig case = All (λ branch. IsRuleOf sig (rule_of sig case.relation case.con case.kids branch)) case.branches

-- the parameters of the case's relation that aren't terms are no more than a rule may have variables
abbrev pub HasFewPlain : Declarations → OpenCase → Type 0
HasFewPlain sig case = length (plain_sorts (kinds_of sig case.relation)) ≤ 64

-- the rules of functions, in order, after the signature before them
abbrev pub rules_of : Declarations → List Function → List Rule
rules_of sig functions = flat_map (case_rules (declared_with sig functions)) (open_cases (declared_with sig functions) (length sig.relations) functions)

-- Data flow.

abbrev pub place_of_open : Option OpenExp → ℕ
place_of_open None = 0
place_of_open (Some e) = e.place

abbrev pub place_of_pair : Option Pair → ℕ
place_of_pair None = 0
place_of_pair (Some pair) = pair.place

-- Reason 40 at the first atom that uses an unknown variable, 41 at the leaf whose output isn't known, 42 at the pair of an
-- existential that isn't known. So many slots come before the existentials.
abbrev pub flow_refusal : ℕ → OpenBranch → FlowFault → Fault
flow_refusal slots branch fault =
    if nat_eq fault.reason 2 then refusal branch.place 41
    else if nat_eq fault.reason 3 then refusal (place_of_pair (slice_get branch.around (fault.slot - slots))) 42
    else refusal (place_of_open (slice_get branch.atoms fault.atom)) 40

-- the first fault of a branch's rule
abbrev pub branch_flow : Declarations → OpenCase → OpenBranch → List Fault
branch_flow sig case branch =
    option_to_list (option_map (flow_refusal case.slots branch) (flow_fault sig (rule_of sig case.relation case.con case.kids branch)))

-- for each rule of a case that fails data flow, its first fault
abbrev pub case_flow : Declarations → OpenCase → List Fault
case_flow sig case = flat_map (branch_flow sig case) case.branches

-- those of functions
abbrev pub functions_flow : Declarations → List Function → List Fault
functions_flow sig functions = flat_map (case_flow (declared_with sig functions)) (open_cases (declared_with sig functions) (length sig.relations) functions)
