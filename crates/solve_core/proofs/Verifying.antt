-- What outcomes tell of examples, and examples of solutions.
use Rattle.std.proofs.Common.{◌≡◌, ◌<◌, ℕ, Bool, true, false, MatchBool, List, map, length, get_or, All, Contains, refl, sym, ap, ◌∙◌, subst}
use Rattle.std.proofs.lemmas.List.{get_or-map, length-map}
use Rattle.std.proofs.lemmas.List.Elements.{All-contains, All-map, All-weaker}
use Rattle.sig_core.specs.declared.ids.RelId.{RelId}
use Rattle.sig_core.specs.declared.value.Value.{Value}
use Rattle.sig_core.specs.Signatures.{Declarations, kinds_of, inputs_of, outputs_of}
use Rattle.sig_core.specs.Values.{sort_of}
use Rattle.term_core.specs.declared.tree.Tree.{Tree}
use Rattle.rule_core.specs.declared.rule.Rule.{Rule}
use Rattle.rule_core.specs.Instances.{Fact}
use Rattle.problem_core.specs.declared.parts.Constraint.{Constraint}
use Rattle.problem_core.specs.Derivations.{Within}
use Rattle.problem_core.specs.Problems.{Parts, Solves, fact_on}
use Rattle.problem_core.specs.Soundness.{IsSound, IsSoundConstraint, wanted_type}
use Rattle.rule_core.proofs.Determined.{outputs-map}
use Rattle.problem_core.proofs.Heights.{Within-rises}
use Rattle.eval_core.specs.declared.outcome.Outcome.{Outcome}
use Rattle.eval_core.specs.Outcomes.{AreOutcomes, AreOutputs, IsOutcome, fact_with}
use Rattle.eval_core.proofs.Inputs.{inputs-map, woven-parts}
use Rattle.solve_core.specs.declared.example.Example.{Example}
use Rattle.solve_core.specs.Examples.{as_example, examples_of, HoldsOn, IsExampleOf}

-- a fact with these outputs has a derivation within the height exactly where they are an outcome's
module _ (sig : Declarations) (rules : List Rule) (h : ℕ) (r : RelId) (t : Tree) (inputs outputs : List Value) (outcomes : List Outcome)
    (are : AreOutcomes sig rules h r t inputs outcomes) (sorted : AreOutputs sig r outputs) where
  there_within : Contains (map (λ (o : Outcome). o.outputs) outcomes) outputs → Within sig rules h (fact_with sig r t inputs outputs)
  there_within c =
      All-contains (λ os. Within sig rules h (fact_with sig r t inputs os)) (map (λ (o : Outcome). o.outputs) outcomes) outputs
      (All-map (λ os. Within sig rules h (fact_with sig r t inputs os)) (λ (o : Outcome). o.outputs) outcomes
      (All-weaker (IsOutcome sig rules h r t inputs) (λ o. Within sig rules h (fact_with sig r t inputs o.outputs))
      (λ o is. Within-rises sig rules o.height h (fact_with sig r t inputs o.outputs) is.low is.least.within) outcomes are.sound)) c

  not_there : All (λ (o : Outcome). ¬ (o.outputs ≡ outputs)) outcomes → ¬ Within sig rules h (fact_with sig r t inputs outputs)
  not_there none within =
      All-contains (λ os. ¬ (os ≡ outputs)) (map (λ (o : Outcome). o.outputs) outcomes) outputs
      (All-map (λ os. ¬ (os ≡ outputs)) (λ (o : Outcome). o.outputs) outcomes none) (are.complete outputs sorted within) refl

  pub outputs_tell : (b : Bool) → MatchBool b (Contains (map (λ (o : Outcome). o.outputs) outcomes) outputs) (All (λ (o : Outcome). ¬ (o.outputs ≡ outputs)) outcomes)
      → MatchBool b (Within sig rules h (fact_with sig r t inputs outputs)) (¬ Within sig rules h (fact_with sig r t inputs outputs))
  outputs_tell true c = there_within c
  outputs_tell false none = not_there none

module _ (problem : Parts) (sound : IsSound problem) where
  one_fits : (c : Constraint) → IsSoundConstraint problem.signature (wanted_type problem.grammar) c → IsExampleOf problem.signature (as_example problem.signature c)
  one_fits c is = record {
    inputs = inputs-map sort_of (kinds_of problem.signature c.relation) c.args ∙ ap (inputs_of (kinds_of problem.signature c.relation)) is.sorted;
    outputs = outputs-map sort_of (kinds_of problem.signature c.relation) c.args ∙ ap (outputs_of (kinds_of problem.signature c.relation)) is.sorted;
  }

  pub examples_fit : All (IsExampleOf problem.signature) (examples_of problem)
  examples_fit =
      All-map (IsExampleOf problem.signature) (as_example problem.signature) problem.constraints
      (All-weaker (IsSoundConstraint problem.signature (wanted_type problem.grammar)) (λ c. IsExampleOf problem.signature (as_example problem.signature c)) one_fits problem.constraints sound.constraints)

  module _ (h : ℕ) (t : Tree) where
    example_is : (c : Constraint) → IsSoundConstraint problem.signature (wanted_type problem.grammar) c
        → fact_with problem.signature c.relation t (as_example problem.signature c).inputs (as_example problem.signature c).outputs ≡ fact_on t c
    example_is c is =
        let with_args : List Value → Fact = λ args. record { relation = c.relation; term = t; args = args } in
        ap with_args (woven-parts (kinds_of problem.signature c.relation) c.args (sym (length-map c.args sort_of) ∙ ap length is.sorted))

    all_solve : All (HoldsOn problem.signature problem.rules h t) (examples_of problem) → Solves problem h t
    all_solve all k d l =
        let c = get_or problem.constraints k d in
        let more = length-map problem.constraints (as_example problem.signature) in
        let at = all k (as_example problem.signature d) (subst (λ n. k < n) (sym more) l) in
        subst (Within problem.signature problem.rules h) (example_is c (sound.constraints k d l))
        (subst (HoldsOn problem.signature problem.rules h t) (get_or-map (as_example problem.signature) problem.constraints k d (as_example problem.signature d) l) at)

    solves_all : Solves problem h t → All (HoldsOn problem.signature problem.rules h t) (examples_of problem)
    solves_all solves =
        All-map (HoldsOn problem.signature problem.rules h t) (as_example problem.signature) problem.constraints (λ k d l.
        subst (Within problem.signature problem.rules h) (sym (example_is (get_or problem.constraints k d) (sound.constraints k d l))) (solves k d l))

    examples_tell : (b : Bool) → MatchBool b (All (HoldsOn problem.signature problem.rules h t) (examples_of problem)) (¬ All (HoldsOn problem.signature problem.rules h t) (examples_of problem))
        → MatchBool b (Solves problem h t) (¬ Solves problem h t)
    examples_tell true all = all_solve all
    examples_tell false none = λ solves. none (solves_all solves)

-- where an evaluator of the problem was asked of its examples
pub solving_told : (problem : Parts) (sound : IsSound problem) (h : ℕ) (t : Tree) (sig : Declarations) (rules : List Rule) (examples : List Example) (b : Bool) → sig ≡ problem.signature → rules ≡ problem.rules → examples ≡ examples_of problem
    → MatchBool b (All (HoldsOn sig rules h t) examples) (¬ All (HoldsOn sig rules h t) examples) → MatchBool b (Solves problem h t) (¬ Solves problem h t)
solving_told problem sound h t sig rules examples b is_sig are_rules are told =
    examples_tell problem sound h t b
    (subst (λ s. MatchBool b (All (HoldsOn s problem.rules h t) (examples_of problem)) (¬ All (HoldsOn s problem.rules h t) (examples_of problem))) is_sig
    (subst (λ rs. MatchBool b (All (HoldsOn sig rs h t) (examples_of problem)) (¬ All (HoldsOn sig rs h t) (examples_of problem))) are_rules
    (subst (λ es. MatchBool b (All (HoldsOn sig rules h t) es) (¬ All (HoldsOn sig rules h t) es)) are told)))

-- the same told of equal problems and heights
pub told_again : (p q : Parts) (h k : ℕ) (t : Tree) (a b : Bool) → q ≡ p → k ≡ h → a ≡ b → MatchBool a (Solves q k t) (¬ Solves q k t) → MatchBool b (Solves p h t) (¬ Solves p h t)
told_again p q h k t a b is_problem is_height is told =
    subst (λ r. MatchBool b (Solves r h t) (¬ Solves r h t)) is_problem
    (subst (λ n. MatchBool b (Solves q n t) (¬ Solves q n t)) is_height
    (subst (λ c. MatchBool c (Solves q k t) (¬ Solves q k t)) is told))
