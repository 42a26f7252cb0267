-- What is known in a rule without a flow fault.
use Rattle.std.specs.Prelude.{◌≡◌, ℕ, zero, suc, true, Option, Some, None, option_and_then, is_some, List, [], ◌∷◌, length, slice_get}
use Rattle.sig_core.specs.Signatures.{Declarations, kinds_of, input_slots, output_slots}
use Rattle.rule_core.specs.declared.rule.Atom.{Atom}
use Rattle.rule_core.specs.declared.rule.Rule.{Rule}
use Rattle.rule_core.specs.Flow.{existential_slots, fits, flow_fault, known_after, unknown_in}

-- the known slots after the first k atoms, if these use known slots only
abbrev pub known_at : List ℕ → List Atom → ℕ → Option (List ℕ)
known_at known atoms zero = Some known
known_at known [] (suc k) = None
known_at known (a ∷ atoms) (suc k) = option_and_then (λ more. known_at more atoms k) (known_after known a)

-- the atom with number k fits what is known before it, and uses that alone
pub record Passes (sig : Declarations) (rule : Rule) (known : List ℕ) (atoms : List Atom) (k : ℕ) (a : Atom) : Type 0 where
  pub before : List ℕ
  pub known_before : known_at known atoms k ≡ Some before
  pub fit : fits sig rule before a ≡ true
  pub uses : is_some (known_after before a) ≡ true

-- each atom passes, and after the last one each output and each existential is known
pub record Flows (sig : Declarations) (rule : Rule) (known : List ℕ) (atoms : List Atom) : Type 0 where
  pub last : List ℕ
  pub known_last : known_at known atoms (length atoms) ≡ Some last
  pub passes : (k : ℕ) (a : Atom) → slice_get atoms k ≡ Some a → Passes sig rule known atoms k a
  pub outputs : unknown_in last (output_slots (kinds_of sig rule.relation)) ≡ None
  pub existentials : unknown_in last (existential_slots (kinds_of sig rule.relation) rule.more) ≡ None

-- so it is in a rule without a fault, where the inputs are known at first
abbrev pub AcceptedFlows : Type 0
AcceptedFlows = (sig : Declarations) (rule : Rule) → flow_fault sig rule ≡ None → Flows sig rule (input_slots (kinds_of sig rule.relation)) rule.atoms

-- and a rule in which it is so has no fault
abbrev pub FlowingAccepted : Type 0
FlowingAccepted = (sig : Declarations) (rule : Rule) → Flows sig rule (input_slots (kinds_of sig rule.relation)) rule.atoms → flow_fault sig rule ≡ None
