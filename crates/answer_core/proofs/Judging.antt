-- The tests of an answer, and what they decide.
use Rattle.std.proofs.Common.{◌≡◌, ◌<◌, ◌&&◌, ℕ, Bool, true, false, nat_eq, Option, Some, None, option_map, List, [], ◌∷◌, length, slice_get, get_or, refl, sym, ap, ap₂, subst, ◌∙◌, arith}
use Rattle.std.specs.Bool.{Decides, beq}
use Rattle.std.specs.Cmp.{booleans_Decides}
use Rattle.std.specs.Option.{option_and_then}
use Rattle.std.specs.Ordering.{int_eq}
use Rattle.std.proofs.lemmas.Bool.{and_parts, and_from}
use Rattle.std.proofs.lemmas.Bool.Decides.{Decides-int_eq, Decides-eqb, Decides-like}
use Rattle.std.proofs.lemmas.Option.{none-some, same_Some, slice_get-get_or}
use lib.Pointwise.{pointwise}
use Rattle.sig_core.specs.declared.value.Value.{Value}
use Rattle.sig_core.specs.declared.value.Value.TheVariants as value
use Rattle.sig_core.specs.Signatures.{Declarations}
use Rattle.sig_core.specs.Values.{same_value}
use Rattle.rule_core.specs.declared.rule.Rule.{Rule}
use Rattle.rule_core.specs.Instances.{Fact}
use Rattle.problem_core.specs.declared.parts.Constraint.{Constraint}
use Rattle.problem_core.specs.Derivations.{Within}
use Rattle.problem_core.specs.Problems.{Parts, Solves, fact_on}
use Rattle.deriv_core.specs.declared.list.BadStep.{BadStep}
use Rattle.deriv_core.specs.Steps.{TreeStep, IsFirstBad, IsValid, step_fact}
use Rattle.deriv_core.proofs.Deciding.{is_eq-Decides}
use Rattle.answer_core.specs.Facts.{is_fact, is_found}
use Rattle.answer_core.specs.Readings.{TreeAnswer}
use Rattle.answer_core.specs.Subterms.{is_same}
use Rattle.answer_core.specs.Verdicts.{Test, nodes_listed, size_right, in_language, steps_valid, constraints_met, number_of, IsFirstUnmet, Meets, derived_fact}
use Rattle.step_laws.proofs.Valid.{IsValid-within}

same_value-Decides : (v w : Value) → Decides (same_value v w) (v ≡ w)
same_value-Decides (value.Int m) (value.Int n) = Decides-like (int_eq m n) (λ h. ap value.Int h) (λ h. (cc)) (Decides-int_eq m n)
same_value-Decides (value.Int m) (value.Bool b) = (λ h. absurd (cc), λ h. absurd (cc))
same_value-Decides (value.Bool a) (value.Int n) = (λ h. absurd (cc), λ h. absurd (cc))
same_value-Decides (value.Bool a) (value.Bool b) = Decides-like (beq a b) (λ h. ap value.Bool h) (λ h. (cc)) (booleans_Decides a b)

values-Decides : (vs ws : List Value) → Decides (pointwise same_value vs ws) (vs ≡ ws)
values-Decides [] [] = (λ _. refl, λ _. refl)
values-Decides [] (w ∷ ws) = (λ h. absurd (cc), λ h. absurd (cc))
values-Decides (v ∷ vs) [] = (λ h. absurd (cc), λ h. absurd (cc))
values-Decides (v ∷ vs) (w ∷ ws) =
    let here = same_value-Decides v w in
    let rest = values-Decides vs ws in (
      λ h. (let p = and_parts (same_value v w) (pointwise same_value vs ws) h in ap₂ (λ x xs. x ∷ xs) (here.0 p.0) (rest.0 p.1)),
      λ h. and_from (same_value v w) (pointwise same_value vs ws) (here.1 (cc)) (rest.1 (cc)),
    )

is_fact-Decides : (f g : Fact) → Decides (is_fact f g) (f ≡ g)
is_fact-Decides f g = (
  λ h. (let outer = and_parts (nat_eq f.relation.0 g.relation.0) (is_same f.term g.term && pointwise same_value f.args g.args) h in
      let inner = and_parts (is_same f.term g.term) (pointwise same_value f.args g.args) outer.1 in
      let relations = (Decides-eqb f.relation.0 g.relation.0).0 outer.0 in
      let terms = (is_eq-Decides f.term g.term).0 inner.0 in
      let args = (values-Decides f.args g.args).0 inner.1 in
      ap (λ r. record { relation = record { 0 = r }; term = f.term; args = f.args }) relations
      ∙ ap₂ (λ t vs. record { relation = g.relation; term = t; args = vs }) terms args),
  λ e. and_from (nat_eq f.relation.0 g.relation.0) (is_same f.term g.term && pointwise same_value f.args g.args) ((Decides-eqb f.relation.0 g.relation.0).1 (ap (λ (x : Fact). x.relation.0) e))
      (and_from (is_same f.term g.term) (pointwise same_value f.args g.args) ((is_eq-Decides f.term g.term).1 (ap (λ (x : Fact). x.term) e)) ((values-Decides f.args g.args).1 (ap (λ (x : Fact). x.args) e))),
)

is_found-Decides : (o : Option Fact) (g : Fact) → Decides (is_found o g) (o ≡ Some g)
is_found-Decides None g = (λ h. absurd (cc), λ h. absurd (none-some g h))
is_found-Decides (Some f) g = Decides-like (is_fact f g) (ap Some) (λ h. same_Some f g h) (is_fact-Decides f g)

module _ (problem : Parts) (answer : TreeAnswer) (k : ℕ) (constraint : Constraint) (at : slice_get problem.constraints k ≡ Some constraint) (b : Bool) (is : b ≡ is_found (derived_fact problem.signature answer k) (fact_on answer.term constraint)) where
  pub is_met : b ≡ true → Meets problem answer k
  is_met h = (is_found-Decides (derived_fact problem.signature answer k) (fact_on answer.term constraint)).0 (sym is ∙ h) ∙ sym (ap (option_map (fact_on answer.term)) at)

  pub is_unmet : b ≡ false → Meets problem answer k → ⊥
  is_unmet h m =
      let found : b ≡ true = is ∙ (is_found-Decides (derived_fact problem.signature answer k) (fact_on answer.term constraint)).1 (m ∙ ap (option_map (fact_on answer.term)) at) in
      let both : false ≡ true = sym h ∙ found in cc

-- Tests before another.

pub none_before : (P : Test → Type 0) (other : Test) → number_of other < 0 → P other
none_before P other h = absurd (omega arith)

pub one_before : (P : Test → Type 0) → P nodes_listed → (other : Test) → number_of other < 1 → P other
one_before P a nodes_listed h = a
one_before P a size_right h = absurd (omega arith)
one_before P a in_language h = absurd (omega arith)
one_before P a steps_valid h = absurd (omega arith)
one_before P a constraints_met h = absurd (omega arith)

pub two_before : (P : Test → Type 0) → P nodes_listed → P size_right → (other : Test) → number_of other < 2 → P other
two_before P a b nodes_listed h = a
two_before P a b size_right h = b
two_before P a b in_language h = absurd (omega arith)
two_before P a b steps_valid h = absurd (omega arith)
two_before P a b constraints_met h = absurd (omega arith)

pub three_before : (P : Test → Type 0) → P nodes_listed → P size_right → P in_language → (other : Test) → number_of other < 3 → P other
three_before P a b c nodes_listed h = a
three_before P a b c size_right h = b
three_before P a b c in_language h = c
three_before P a b c steps_valid h = absurd (omega arith)
three_before P a b c constraints_met h = absurd (omega arith)

pub four_before : (P : Test → Type 0) → P nodes_listed → P size_right → P in_language → P steps_valid → (other : Test) → number_of other < 4 → P other
four_before P a b c d nodes_listed h = a
four_before P a b c d size_right h = b
four_before P a b c d in_language h = c
four_before P a b c d steps_valid h = d
four_before P a b c d constraints_met h = absurd (omega arith)

pub each_test : (P : Test → Type 0) → P nodes_listed → P size_right → P in_language → P steps_valid → P constraints_met → (test : Test) → P test
each_test P a b c d e nodes_listed = a
each_test P a b c d e size_right = b
each_test P a b c d e in_language = c
each_test P a b c d e steps_valid = d
each_test P a b c d e constraints_met = e

pub invalid : (sig : Declarations) (rules : List Rule) (height : ℕ) (steps : List TreeStep) (bad : BadStep) → IsFirstBad sig rules height steps bad → IsValid sig rules height steps → ⊥
invalid sig rules height steps bad first valid = first.fault.fails (valid bad.step first.fault.step first.fault.at first.test)

pub unmet_fails : (problem : Parts) (answer : TreeAnswer) (k : ℕ) → IsFirstUnmet problem answer k → ((j : ℕ) → j < length problem.constraints → Meets problem answer j) → ⊥
unmet_fails problem answer k first all = first.unmet (all k first.there)

-- What a valid answer derives.

mapped : {X Y : Type 0} (f : X → Y) (o : Option X) (y : Y) → option_map f o ≡ Some y → (x : X) × (o ≡ Some x) × (f x ≡ y)
mapped f None y e = absurd (none-some y e)
mapped f (Some x) y e = (x, refl, same_Some (f x) y e)

chained : {X Y : Type 0} (f : X → Option Y) (o : Option X) (y : Y) → option_and_then f o ≡ Some y → (x : X) × (f x ≡ Some y)
chained f None y e = absurd (none-some y e)
chained f (Some x) y e = (x, e)

pub solves : (problem : Parts) (height : ℕ) (answer : TreeAnswer) → IsValid problem.signature problem.rules height answer.steps → ((k : ℕ) → k < length problem.constraints → Meets problem answer k) → Solves problem height answer.term
solves problem height answer valid meets k d h =
    let constraint : Constraint = get_or problem.constraints k d in
    let fact : Fact = fact_on answer.term constraint in
    let found : derived_fact problem.signature answer k ≡ Some fact = meets k h ∙ ap (option_map (fact_on answer.term)) (slice_get-get_or problem.constraints k d h) in
    let number = chained (λ n. option_map (step_fact problem.signature) (slice_get answer.steps n)) (slice_get answer.derived k) fact found in
    let step = mapped (step_fact problem.signature) (slice_get answer.steps number.0) fact number.1 in
    subst (Within problem.signature problem.rules height) step.2 (IsValid-within problem.signature problem.rules height answer.steps valid number.0 step.0 step.1)
