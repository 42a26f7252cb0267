-- The fact of an outcome of the one relation.
use Rattle.std.proofs.Common.{◌≡◌, ◌<◌, ℕ, List, [], ◌∷◌, length, get_or, All, refl, sym, subst, ap, arith}
use Rattle.std.proofs.lemmas.List.Elements.{All-get_or}
use Rattle.sig_core.specs.declared.ids.RelId.{RelId}
use Rattle.sig_core.specs.declared.value.Value.{Value}
use Rattle.term_core.specs.declared.tree.Tree.{Tree}
use Rattle.rule_core.specs.declared.rule.Rule.{Rule}
use Rattle.rule_core.specs.Instances.{Fact}
use Rattle.problem_core.specs.Derivations.{Within}
use Rattle.problem_core.proofs.Heights.{Within-rises}
use Rattle.eval_core.specs.declared.outcome.Outcome.{Outcome}
use Rattle.eval_core.specs.Outcomes.{AreOutputs, AreOutcomes, IsOutcome, fact_with}
use Rattle.example_loops.specs.Loops.{loops}

abbrev pub S : RelId
S = record { 0 = 0 }

-- the fact with these arguments
abbrev pub fact_of : Tree → List Value → Fact
fact_of t args = record { relation = S; term = t; args = args }

same_fact : (t : Tree) (input : Value) (outputs : List Value) → AreOutputs loops S outputs
    → fact_with loops S t (input ∷ []) outputs ≡ fact_of t (input ∷ outputs)
same_fact t input [] e = absurd (omega (arith, ap length e))
same_fact t input (o ∷ []) e = refl
same_fact t input (o ∷ p ∷ os) e = absurd (omega (arith, ap length e))

pub outcome_within : (rules : List Rule) (height : ℕ) (t : Tree) (input : Value) (o : Outcome) → IsOutcome loops rules height S t (input ∷ []) o
    → Within loops rules height (fact_of t (input ∷ o.outputs))
outcome_within rules height t input o is =
    subst (Within loops rules height) (same_fact t input o.outputs is.sorted) (Within-rises loops rules o.height height (fact_with loops S t (input ∷ []) o.outputs) is.low is.least.within)

-- the fact of the first outcome is derivable
pub first_within : (rules : List Rule) (height : ℕ) (t : Tree) (input : Value) (outcomes seen : List Outcome) (first : Outcome)
    → AreOutcomes loops rules height S t (input ∷ []) outcomes → seen ≡ outcomes → 0 < length outcomes → first ≡ get_or seen 0 first
    → Within loops rules height (fact_of t (input ∷ first.outputs))
first_within rules height t input outcomes seen first are e low at =
    let each = subst (All (IsOutcome loops rules height S t (input ∷ []))) (sym e) are.sound in
    let there = All-get_or (IsOutcome loops rules height S t (input ∷ [])) seen 0 first (subst (λ os. 0 < length os) (sym e) low) each in
    outcome_within rules height t input first (subst (IsOutcome loops rules height S t (input ∷ [])) (sym at) there)
