-- Words of terms and facts at a constructor over its children.
use Rattle.std.proofs.Common.{◌≡◌, ℕ, Option, Some, None, List, map, slice_get, refl, ap, ◌∙◌, rules}
use Rattle.std.specs.List.{AllByRecursion}
use Rattle.std.proofs.lemmas.List.Elements.{All-from_recursion}
use Rattle.std.proofs.lemmas.Option.{same_Some, none-some}
use Rattle.sig_core.specs.declared.value.Value.{Value}
use Rattle.sig_core.specs.declared.ids.ConId.{ConId}
use Rattle.sig_core.specs.declared.ids.RelId.{RelId}
use Rattle.term_core.specs.declared.tree.Tree.{Tree, out-Tree, the_lemmas}
use Rattle.rule_core.specs.declared.rule.Rule.{Rule}
use Rattle.rule_core.specs.declared.rule.Call.{Call}
use Rattle.rule_core.specs.declared.rule.Who.TheVariants.{Child}
use Rattle.sig_core.specs.Lists.{all_some}
use Rattle.expr_core.specs.Expressions.{value_of}
use Rattle.sig_core.specs.Signatures.{Declarations}
use Rattle.rule_core.specs.Instances.{Fact, IsInstance, param_values, calls_of, call_fact, fact_of, term_at, args_of}
use Rattle.problem_core.specs.Derivations.{Follows, CallMeets}
use Rattle.rule_core.specs.Rulebooks.{rules_for}
use Rattle.term_core.specs.Terms.{node}

pub out-node : (con : ConId) (kids : List Tree) → out-Tree (node con kids) ≡ record { con = con; kids = kids }
out-node con kids = search (rules, the_lemmas)

pub child-node : (con : ConId) (kids : List Tree) (i : ℕ) → term_at (node con kids) (Child i) ≡ slice_get kids i
child-node con kids i = ap (λ o. slice_get o.kids i) (out-node con kids)

pub listed-node : (rules : List Rule) (r : RelId) (con : ConId) (kids : List Tree) (n : ℕ) → slice_get (rules_for rules r (out-Tree (node con kids)).con) n ≡ slice_get (rules_for rules r con) n
listed-node rules r con kids n = ap (λ o. slice_get (rules_for rules r o.con) n) (out-node con kids)

-- a fact of a constructor over its children
pub follows : (sig : Declarations) (rules : List Rule) (P : Fact → Type 0) (r : RelId) (con : ConId) (kids : List Tree) (number : ℕ) (rule : Rule) (slots : List Value)
    → slice_get (rules_for rules r con) number ≡ Some rule → IsInstance sig rule slots
    → AllByRecursion (CallMeets P sig (node con kids) slots) (calls_of rule.atoms)
    → Follows sig rules P (record { relation = r; term = node con kids; args = param_values sig r slots })
follows sig rules P r con kids number rule slots listed instance calls = record {
  number = number;
  rule = rule;
  listed = listed-node rules r con kids number ∙ listed;
  slots = slots;
  is_instance = instance;
  args = refl;
  calls = All-from_recursion (CallMeets P sig (node con kids) slots) (calls_of rule.atoms) calls;
}

fact_parts : (r : RelId) (t : Option Tree) (vs : Option (List Value)) (fact : Fact) → fact_of r t vs ≡ Some fact → (r ≡ fact.relation) × (t ≡ Some fact.term) × (vs ≡ Some fact.args)
fact_parts r (Some t) (Some vs) fact e = let h = same_Some (record { relation = r; term = t; args = vs }) fact e in (ap (λ f. f.relation) h, ap (λ f. Some f.term) h, ap (λ f. Some f.args) h)
fact_parts r (Some t) None fact e = absurd (none-some fact e)
fact_parts r None vs fact e = absurd (none-some fact e)

-- what a call's fact is of
pub call_parts : (sig : Declarations) (t : Tree) (slots : List Value) (call : Call) (fact : Fact) → call_fact sig t slots call ≡ Some fact
    → (call.relation ≡ fact.relation) × (term_at t call.who ≡ Some fact.term) × (all_some (map (value_of slots) (args_of sig call)) ≡ Some fact.args)
call_parts sig t slots call fact e = fact_parts call.relation (term_at t call.who) (all_some (map (value_of slots) (args_of sig call))) fact e
