-- What a call's fact is of.
use Rattle.std.proofs.Common.{◌≡◌, Option, Some, None, List, map, ap}
use Rattle.std.proofs.lemmas.Option.{same_Some, none-some}
use Rattle.sig_core.specs.declared.value.Value.{Value}
use Rattle.sig_core.specs.declared.ids.RelId.{RelId}
use Rattle.term_core.specs.declared.tree.Tree.{Tree}
use Rattle.rule_core.specs.declared.rule.Call.{Call}
use Rattle.sig_core.specs.Lists.{all_some}
use Rattle.expr_core.specs.Expressions.{value_of}
use Rattle.sig_core.specs.Signatures.{Declarations}
use Rattle.rule_core.specs.Instances.{Fact, call_fact, fact_of, term_at, args_of}

fact_parts : (r : RelId) (t : Option Tree) (vs : Option (List Value)) (fact : Fact) → fact_of r t vs ≡ Some fact → (r ≡ fact.relation) × (t ≡ Some fact.term) × (vs ≡ Some fact.args)
fact_parts r (Some t) (Some vs) fact e = let h = same_Some (record { relation = r; term = t; args = vs }) fact e in (ap (λ f. f.relation) h, ap (λ f. Some f.term) h, ap (λ f. Some f.args) h)
fact_parts r (Some t) None fact e = absurd (none-some fact e)
fact_parts r None vs fact e = absurd (none-some fact e)

-- what a call's fact is of
pub call_parts : (sig : Declarations) (t : Tree) (slots : List Value) (call : Call) (fact : Fact) → call_fact sig t slots call ≡ Some fact
    → (call.relation ≡ fact.relation) × (term_at t call.who ≡ Some fact.term) × (all_some (map (value_of slots) (args_of sig call)) ≡ Some fact.args)
call_parts sig t slots call fact e = fact_parts call.relation (term_at t call.who) (all_some (map (value_of slots) (args_of sig call))) fact e
