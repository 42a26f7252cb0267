-- Data flow of a rule from left to right, determined rules, and handing on.
use Rattle.std.specs.Prelude.{◌≡◌, ℕ, suc, Bool, true, false, not, ◌&&◌, nat_eq, if◌then◌else◌, Option, Some, None, option_and_then, List, [], ◌∷◌, ◌++◌, map, length, slice_get, is_some, All, MatchOption, ⊤}
use Rattle.std.specs.List.{list_all, list_any, find}
use Rattle.std.specs.Option.{option_map_or, option_or}
use lib.Pointwise.{pointwise}
use Rattle.sig_core.specs.declared.value.Value.{Value}
use Rattle.sig_core.specs.declared.value.Sort.{Sort}
use Rattle.sig_core.specs.declared.value.Sort.TheVariants as sort
use Rattle.sig_core.specs.declared.ids.TypeId.{TypeId}
use Rattle.sig_core.specs.declared.ids.ConId.{ConId}
use Rattle.sig_core.specs.declared.signature.Constructor.{Constructor}
use Rattle.sig_core.specs.declared.signature.Kind.{Kind}
use Rattle.expr_core.specs.declared.expr.Expr.{Expr}
use Rattle.expr_core.specs.declared.expr.Expr.TheVariants.{Slot}
use Rattle.expr_core.specs.declared.expr.Expr.TheOpen.{Expr-F}
use Rattle.expr_core.specs.declared.expr.Expr.{out-Expr}
use Rattle.term_core.specs.declared.tree.Tree.{Tree}
use Rattle.rule_core.specs.declared.flow.FlowFault.{FlowFault}
use Rattle.rule_core.specs.declared.rule.Who.{Who}
use Rattle.rule_core.specs.declared.rule.Who.TheVariants.{Own, Child}
use Rattle.rule_core.specs.declared.rule.Call.{Call}
use Rattle.rule_core.specs.declared.rule.Atom.{Atom}
use Rattle.rule_core.specs.declared.rule.Atom.TheVariants as atom
use Rattle.rule_core.specs.declared.rule.Rule.{Rule}
use Rattle.rule_core.specs.declared.rule.Var.{Var}
use Rattle.sig_core.specs.Lists.{numbers_from}
use Rattle.sig_core.specs.Values.{same_sort}
use Rattle.expr_core.specs.Expressions.{sort_in, slots_in}
use Rattle.sig_core.specs.Signatures.{Declarations, kinds_of, plain_sorts, inputs_of, outputs_of, input_slots, output_slots, term_type}
use Rattle.rule_core.specs.Instances.{Fact, IsInstance, slot_sorts, calls_of, call_fact}

abbrev pub is_in : List ℕ → ℕ → Bool
is_in known slot = list_any (λ k. nat_eq k slot) known

-- the expression uses known slots only
abbrev pub is_known : List ℕ → Expr → Bool
is_known known e = list_all (is_in known) (slots_in e)

-- the slot of an expression that is a bare variable
abbrev pub bare_slot : Expr-F Expr → Option ℕ
bare_slot (Expr-F.Slot slot) = Some slot
bare_slot _ = None

-- the expression is this slot's bare variable
abbrev pub names_slot : Expr → ℕ → Bool
names_slot e slot = option_map_or (λ k. nat_eq k slot) (bare_slot (out-Expr e)) false

-- the known slots and this one
abbrev pub with_slot : List ℕ → ℕ → List ℕ
with_slot known slot = if is_in known slot then known else known ++ slot ∷ []

-- the known slots after an output argument, if it is a bare variable or over known slots
abbrev pub known_after_output : List ℕ → Option ℕ → Bool → Option (List ℕ)
known_after_output known (Some slot) _ = Some (with_slot known slot)
known_after_output known None true = Some known
known_after_output known None false = None

-- the known slots after the output arguments from the left
abbrev pub known_after_outputs : List ℕ → List Expr → Option (List ℕ)
known_after_outputs known [] = Some known
known_after_outputs known (e ∷ es) = option_and_then (λ more. known_after_outputs more es) (known_after_output known (bare_slot (out-Expr e)) (is_known known e))

-- the known slots after an atom, if it uses known slots only
abbrev pub known_after : List ℕ → Atom → Option (List ℕ)
known_after known (atom.Call call) = if list_all (is_known known) call.inputs then known_after_outputs known call.outputs else None
known_after known (atom.Fill slot e) = if is_known known e then Some (known ++ slot ∷ []) else None
known_after known (atom.Test e) = if is_known known e then Some known else None

abbrev pub same_type : Option TypeId → Option TypeId → Bool
same_type (Some s) (Some t) = nat_eq s.0 t.0
same_type _ _ = false

abbrev pub has_sort : List Sort → Expr → Sort → Bool
has_sort scope e s = option_map_or (same_sort s) (sort_in scope e) false

-- the type of a constructor, and that of its child
abbrev pub type_at : Option Constructor → Who → Option TypeId
type_at None who = None
type_at (Some c) Own = Some c.owner
type_at (Some c) (Child i) = slice_get c.args i

-- a call in a rule of the constructor, whose slots have the sorts of the scope
abbrev pub fits_call : Declarations → ConId → List Sort → Call → Bool
fits_call sig con scope call =
    let kinds = kinds_of sig call.relation in
    same_type (term_type kinds) (type_at (slice_get sig.constructors con.0) call.who)
    && (pointwise (has_sort scope) call.inputs (inputs_of kinds (plain_sorts kinds))
    && pointwise (has_sort scope) call.outputs (outputs_of kinds (plain_sorts kinds)))

-- The atom's relation, child, slots, numbers of arguments, types and sorts fit, where these slots are known
-- before it. A slot that is known already can't be filled.
abbrev pub fits : Declarations → Rule → List ℕ → Atom → Bool
fits sig rule known (atom.Call call) = fits_call sig rule.con (slot_sorts sig rule) call
fits sig rule known (atom.Fill slot e) = not (is_in known slot) && option_map_or (has_sort (slot_sorts sig rule) e) (slice_get (slot_sorts sig rule) slot) false
fits sig rule known (atom.Test e) = has_sort (slot_sorts sig rule) e sort.Bool

-- the first slot of a list that is not known
abbrev pub unknown_in : List ℕ → List ℕ → Option ℕ
unknown_in known slots = find (λ slot. not (is_in known slot)) slots

abbrev pub existential_slots : List Kind → List Var → List ℕ
existential_slots kinds more = numbers_from (length (plain_sorts kinds)) more

abbrev pub fault_at : ℕ → ℕ → Option ℕ → Option FlowFault
fault_at reason n None = None
fault_at reason n (Some slot) = Some (record { reason = reason; atom = n; slot = slot })

-- after the last atom: the first unknown output, else the first unknown existential
abbrev pub end_fault : List Kind → List Var → List ℕ → ℕ → Option FlowFault
end_fault kinds more known n = option_or (fault_at 2 n (unknown_in known (output_slots kinds))) (fault_at 3 n (unknown_in known (existential_slots kinds more)))

-- the first fault from the atom with number n on, where these slots are known before it
abbrev pub fault_from : Declarations → Rule → List ℕ → ℕ → List Atom → Option FlowFault
fault_from sig rule known n [] = end_fault (kinds_of sig rule.relation) rule.more known n
fault_from sig rule known n (a ∷ atoms) =
    if fits sig rule known a
    then option_map_or (λ more. fault_from sig rule more (suc n) atoms) (known_after known a) (fault_at 1 n (Some 0))
    else fault_at 4 n (Some 0)

abbrev pub flow_fault : Declarations → Rule → Option FlowFault
flow_fault sig rule = fault_from sig rule (input_slots (kinds_of sig rule.relation)) 0 rule.atoms

-- the facts of an instance's calls, where each has one
abbrev pub call_facts : Declarations → Tree → List Value → Rule → List (Option Fact)
call_facts sig t slots rule = map (call_fact sig t slots) (calls_of rule.atoms)

abbrev pub input_values : Declarations → Rule → List Value → List Value
input_values sig rule slots = inputs_of (kinds_of sig rule.relation) slots

-- two instances, in which each call has a fact, are equal where their inputs and the facts of their calls are
pub record IsDetermined (sig : Declarations) (rule : Rule) : Type 0 where
  pub same : (t t' : Tree) (s s' : List Value) → IsInstance sig rule s → IsInstance sig rule s' →
      input_values sig rule s ≡ input_values sig rule s' →
      list_all is_some (call_facts sig t s rule) ≡ true →
      call_facts sig t s rule ≡ call_facts sig t' s' rule → s ≡ s'

abbrev pub calls_on : Who → ℕ → Bool
calls_on Own i = true
calls_on (Child k) i = nat_eq k i

-- a call on child i or on the term itself takes exactly the input variables of the rule's relation, in order
abbrev pub TakesInputs : Declarations → Rule → ℕ → Atom → Type 0
TakesInputs sig rule i (atom.Call call) = calls_on call.who i ≡ true → call.inputs ≡ map Slot (input_slots (kinds_of sig rule.relation))
TakesInputs sig rule i (atom.Fill slot e) = Unit {0}
TakesInputs sig rule i (atom.Test e) = Unit {0}

-- that is so in each rule of c
abbrev pub HandsOn : Declarations → List Rule → ConId → ℕ → Type 0
HandsOn sig rules c i = All (λ rule. rule.con ≡ c → All (TakesInputs sig rule i) rule.atoms) rules

-- that is so in the rule with this number, if there is one
abbrev pub HandsOnAt : Declarations → List Rule → ℕ → ℕ → Type 0
HandsOnAt sig rules i number = MatchOption (slice_get rules number) ⊤ (λ rule. All (TakesInputs sig rule i) rule.atoms)
