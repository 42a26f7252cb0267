-- A valid answer to a sound problem can be printed and read back.
use Rattle.std.proofs.Common.{◌≡◌, ℕ, zero, suc, ◌<◌, ◌≤◌, ◌^◌, Bool, true, false, ◌&&◌, nat_eq, List, [], ◌∷◌, filter, take, length, get_or, slice_get, cond, Option, Some, None, is_some, option_map, option_and_then, All, refl, sym, ap, subst, ◌∙◌, arith}
use Rattle.std.proofs.lemmas.Bool.{and_parts}
use Rattle.std.proofs.lemmas.Bool.Decides.{nat_tests}
use Rattle.std.proofs.lemmas.List.{length-take}
use Rattle.std.proofs.lemmas.List.Elements.{All-head, All-tail, All-weaker}
use Rattle.std.proofs.lemmas.Option.{slice_get-get_or, slice_get_within}
use Rattle.term_core.specs.Terms.{con_of}
use Rattle.term_core.specs.Typings.{IsTermOf}
use Rattle.rule_core.specs.declared.rule.Rule.{Rule}
use Rattle.rule_core.specs.Rulebooks.{rules_for}
use Rattle.grammar_core.specs.Grammars.{nonterminal_at, start}
use Rattle.grammar_core.specs.Languages.{IsGrammarOf, IsProductionOf}
use Rattle.grammar_core.proofs.Language.{language_is_typed}
use Rattle.problem_core.specs.Problems.{Parts, fact_on}
use Rattle.problem_core.specs.Soundness.{IsSound, IsSoundNonterminal, IsSoundRule}
use Rattle.deriv_core.specs.Steps as steps
use Rattle.deriv_core.specs.Steps.{TreeStep, rule_of, step_fact}
use Rattle.answer_core.specs.declared.answer.Verdict.TheVariants as verdict
use Rattle.answer_core.specs.Readings.{TreeAnswer, nothing, reading}
use Rattle.answer_core.specs.Verdicts as tests
use Rattle.answer_core.specs.Verdicts.{IsVerdict, Meets}
use Rattle.answer_laws.specs.Answers.{IsAnswerTold, IsStepTold}
use Rattle.answer_laws.specs.Valid.{IsListed, ValidAnswersReadBack}
use Rattle.answer_laws.proofs.Whole.{answer_reads_back}

-- what is found among the items that pass a test

record IsFound {X : Type 0} (P : X → Type 0) (test : X → Bool) (x : X) : Type 0 where
  holds : P x
  passes : test x ≡ true

module _ {X : Type 0} (P : X → Type 0) (test : X → Bool) where
  found_by : (x : X) (xs : List X) (b : Bool) → test x ≡ b → All P (x ∷ xs) → ((k : ℕ) (y : X) → slice_get (filter test xs) k ≡ Some y → IsFound P test y) → (k : ℕ) (y : X) → slice_get (cond b (x ∷ filter test xs) (filter test xs)) k ≡ Some y → IsFound P test y
  found_by x xs false e all later k y at = later k y at
  found_by x xs true e all later zero y at =
      let same : x ≡ y = cc in record { holds = subst P same (All-head P x xs all); passes = ap test (sym same) ∙ e }
  found_by x xs true e all later (suc k) y at = later k y at

  found : (xs : List X) → All P xs → (k : ℕ) (y : X) → slice_get (filter test xs) k ≡ Some y → IsFound P test y
  found [] all k y at = absurd (cc)
  found (x ∷ xs) all k y at = found_by x xs (test x) refl all (found xs (All-tail P x xs all)) k y at

  fewer_by : (x : X) (xs : List X) (b : Bool) → length (filter test xs) ≤ length xs → length (cond b (x ∷ filter test xs) (filter test xs)) ≤ length (x ∷ xs)
  fewer_by x xs true h = omega (arith, h)
  fewer_by x xs false h = omega (arith, h)

  fewer : (xs : List X) → length (filter test xs) ≤ length xs
  fewer [] = omega arith
  fewer (x ∷ xs) = fewer_by x xs (test x) (fewer xs)

there : {X : Type 0} (o : Option X) → is_some o ≡ true → (x : X) × (o ≡ Some x)
there None e = absurd (cc)
there (Some x) e = (x, refl)

made_there : {X Y : Type 0} (f : X → Y) (o : Option X) (y : Y) → option_map f o ≡ Some y → (x : X) × (o ≡ Some x)
made_there f None y e = absurd (cc)
made_there f (Some x) y e = (x, refl)

item_at : {X : Type 0} (xs : List X) (k : ℕ) → k < length xs → (x : X) × (slice_get xs k ≡ Some x)
item_at [] k h = absurd (omega (arith, h))
item_at (x ∷ xs) zero h = (x, refl)
item_at (x ∷ xs) (suc k) h = item_at xs k (omega (arith, h))

-- the grammar of a sound problem is one of its signature
grammar_fits : (problem : Parts) → IsSound problem → IsGrammarOf problem.signature problem.grammar
grammar_fits problem sound =
    All-weaker (IsSoundNonterminal problem.signature problem.grammar) (λ n. All (IsProductionOf problem.signature problem.grammar n.owner) n.productions) (λ n fine. fine.makes) problem.grammar sound.grammar.nonterminals

module _ (problem : Parts) (sound : IsSound problem) (height : ℕ) (answer : TreeAnswer) (valid : IsVerdict problem height answer verdict.Valid) (listed : IsListed problem answer) where
  term_typed : IsTermOf problem.signature answer.term
  term_typed = ((nonterminal_at problem.grammar start).owner, language_is_typed problem.signature problem.grammar (grammar_fits problem sound) answer.term start (valid tests.in_language))

  -- the step with this number
  module _ (k : ℕ) (step : TreeStep) (at : slice_get answer.steps k ≡ Some step) where
    passes : (test : steps.Test) → steps.Passes problem.signature problem.rules height (take k answer.steps) step test
    passes = valid tests.steps_valid k step at

    rule : (r : Rule) × (rule_of problem.rules step ≡ Some r)
    rule = there (rule_of problem.rules step) (passes steps.rule_exists)

    is_rule : IsFound (IsSoundRule problem.signature) (λ r. nat_eq r.relation.0 step.relation.0 && nat_eq r.con.0 (con_of step.node).0) rule.0
    is_rule = found (IsSoundRule problem.signature) (λ r. nat_eq r.relation.0 step.relation.0 && nat_eq r.con.0 (con_of step.node).0) problem.rules sound.rules step.rule rule.0 rule.1

    relation_known : step.relation.0 < length problem.signature.relations
    relation_known =
        let tests = and_parts (nat_eq rule.0.relation.0 step.relation.0) (nat_eq rule.0.con.0 (con_of step.node).0) is_rule.passes in
        let same : rule.0.relation.0 ≡ step.relation.0 = equal_numbers rule.0.relation.0 step.relation.0 tests.0 in
        subst (λ n. n < length problem.signature.relations) same is_rule.holds.fits.relation
      where
        equal_numbers : (m n : ℕ) → nat_eq m n ≡ true → m ≡ n
        equal_numbers m n e = grind (arith, nat_tests)

    rule_small : step.rule < 2 ^ 64
    rule_small =
        let within = slice_get_within (rules_for problem.rules step.relation (con_of step.node)) step.rule rule.0 rule.1 in
        omega (arith, within, fewer (IsSoundRule problem.signature) (λ r. nat_eq r.relation.0 step.relation.0 && nat_eq r.con.0 (con_of step.node).0) problem.rules, sound.few_rules)

    premises_small : All (λ p. p < 2 ^ 64) step.premises
    premises_small = λ i d h. omega (arith, passes steps.premises_earlier i d h, length-take k answer.steps, listed.few_steps)

  steps_told : All (IsStepTold problem.signature answer.nodes) answer.steps
  steps_told = λ k d h.
      let step : TreeStep = get_or answer.steps k d in
      let at : slice_get answer.steps k ≡ Some step = slice_get-get_or answer.steps k d h in
      let r = rule k step at in record {
        known = relation_known k step at;
        listed = listed.listed k d h;
        rule = rule_small k step at;
        values = (passes k step at steps.values_fit r.0 r.1).1;
        premises = premises_small k step at;
      }

  derived_there : All (λ number. number < length answer.steps) answer.derived
  derived_there = λ k d h.
      let number : ℕ = get_or answer.derived k d in
      let wanted : k < length problem.constraints = omega (arith, h, listed.each) in
      let stands : slice_get answer.derived k ≡ Some number = slice_get-get_or answer.derived k d h in
      let meets : Meets problem answer k = valid tests.constraints_met k wanted in
      let fact = item_at problem.constraints k wanted in
      let made : option_map (step_fact problem.signature) (slice_get answer.steps number) ≡ Some (fact_on answer.term fact.0) =
      sym (ap (option_and_then (λ n. option_map (step_fact problem.signature) (slice_get answer.steps n))) stands) ∙ meets ∙ ap (option_map (fact_on answer.term)) fact.1 in
      let step = made_there (step_fact problem.signature) (slice_get answer.steps number) (fact_on answer.term fact.0) made in
      slice_get_within answer.steps number step.0 step.1

  pub valid_told : IsAnswerTold problem.signature answer
  valid_told = record {
    typed = term_typed;
    small = listed.small;
    nests = listed.nests;
    size_is = valid tests.size_right;
    nodes = valid tests.nodes_listed;
    steps = steps_told;
    derived = derived_there;
    few_steps = listed.few_steps;
    few_derived = omega (arith, listed.each, sound.few_constraints);
  }

pub valid_answers_read_back : ValidAnswersReadBack
valid_answers_read_back problem sound names height answer valid listed =
    let back = answer_reads_back problem.signature sound.signature names answer (valid_told problem sound height answer valid listed) in
    (back.0, back.1, λ end. ap (λ n. reading problem.signature n end back.0 nothing) (sym listed.each) ∙ back.2 end)
