-- Facts that have derivations.
use Rattle.std.specs.Prelude.{◌≡◌, ◌<◌, ℕ, zero, suc, Some, List, slice_get, All}
use Rattle.term_core.specs.declared.tree.Tree.{Tree, out-Tree}
use Rattle.sig_core.specs.declared.value.Value.{Value}
use Rattle.rule_core.specs.declared.rule.Call.{Call}
use Rattle.rule_core.specs.declared.rule.Rule.{Rule}
use Rattle.sig_core.specs.Signatures.{Declarations}
use Rattle.rule_core.specs.Rulebooks.{rules_for}
use Rattle.rule_core.specs.Instances.{Fact, IsInstance, param_values, calls_of, call_fact}

-- the call has a fact that is P
abbrev pub CallMeets : (Fact → Type 0) → Declarations → Tree → List Value → Call → Type 0
CallMeets P sig t slots call = (fact : Fact) × (call_fact sig t slots call ≡ Some fact) × P fact

-- some instance of a rule gives the fact from facts that are P
pub record Follows (sig : Declarations) (rules : List Rule) (P : Fact → Type 0) (fact : Fact) : Type 0 where
  pub number : ℕ
  pub rule : Rule
  pub listed : slice_get (rules_for rules fact.relation (out-Tree fact.term).con) number ≡ Some rule
  pub slots : List Value
  pub is_instance : IsInstance sig rule slots
  pub args : param_values sig fact.relation slots ≡ fact.args
  pub calls : All (CallMeets P sig fact.term slots) (calls_of rule.atoms)

-- the fact has a derivation of height h at most
abbrev pub Within : Declarations → List Rule → ℕ → Fact → Type 0
Within sig rules zero fact = ⊥
Within sig rules (suc h) fact = Follows sig rules (Within sig rules h) fact

pub record IsLeastHeight (sig : Declarations) (rules : List Rule) (fact : Fact) (h : ℕ) : Type 0 where
  pub within : Within sig rules h fact
  pub least : (k : ℕ) → k < h → ¬ Within sig rules k fact
