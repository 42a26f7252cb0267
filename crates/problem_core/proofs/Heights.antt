-- A derivation of height h is one of each greater height.
use Rattle.std.proofs.Common.{◌≤◌, ℕ, zero, suc, List, arith}
use Rattle.std.proofs.lemmas.List.Elements.{All-weaker}
use Rattle.rule_core.specs.declared.rule.Rule.{Rule}
use Rattle.sig_core.specs.Signatures.{Declarations}
use Rattle.rule_core.specs.Instances.{Fact, calls_of}
use Rattle.problem_core.specs.Derivations.{Follows, Within, CallMeets}

pub Follows-weaker : (sig : Declarations) (rules : List Rule) (P Q : Fact → Type 0) → ((fact : Fact) → P fact → Q fact) → (fact : Fact) → Follows sig rules P fact → Follows sig rules Q fact
Follows-weaker sig rules P Q weaker fact d = record {
  number = d.number;
  rule = d.rule;
  listed = d.listed;
  slots = d.slots;
  is_instance = d.is_instance;
  args = d.args;
  calls = All-weaker (CallMeets P sig fact.term d.slots) (CallMeets Q sig fact.term d.slots) (λ call m. (m.0, m.1, weaker m.0 m.2)) (calls_of d.rule.atoms) d.calls;
}

pub Within-rises : (sig : Declarations) (rules : List Rule) (h k : ℕ) (fact : Fact) → h ≤ k → Within sig rules h fact → Within sig rules k fact
Within-rises sig rules zero k fact le d = absurd d
Within-rises sig rules (suc h) zero fact le d = absurd (omega arith)
Within-rises sig rules (suc h) (suc k) fact le d = Follows-weaker sig rules (Within sig rules h) (Within sig rules k) (λ f. Within-rises sig rules h k f (omega arith)) fact d
