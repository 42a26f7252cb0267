-- The answer of a term with derivations of the constraints on it is valid, and each step is on a node of the term.
use Rattle.std.proofs.Common.{◌≡◌, ℕ, zero, suc, ◌+◌, ◌<◌, ◌≤◌, ◌^◌, inl, inr, true, List, [], ◌∷◌, map, take, length, get_or, slice_get, Option, Some, None, is_some, option_map, option_and_then, Contains, refl, sym, ap, subst, ◌∙◌, arith}
use Rattle.std.proofs.lemmas.List.{length-map}
use Rattle.std.proofs.lemmas.Option.{get_or_from_slice_get, none-some, same_Some, slice_get-get_or, slice_get-map, slice_get_within}
use Rattle.sig_core.specs.declared.ids.RelId.{RelId}
use Rattle.sig_core.specs.declared.value.Value.{Value}
use Rattle.sexpr_core.specs.Spelling.{Spell}
use Rattle.term_core.specs.declared.tree.Tree.{Tree}
use Rattle.term_core.specs.Terms.{kids_of, size, AreNodesOf, IsSubterm, itself}
use Rattle.term_core.proofs.Marking.{child_of_subterm}
use Rattle.rule_core.specs.declared.rule.Who.{Who}
use Rattle.rule_core.specs.declared.rule.Who.TheVariants.{Own, Child}
use Rattle.rule_core.specs.Instances.{Fact, call_fact, calls_of, fact_of, term_at}
use Rattle.grammar_core.specs.Grammars.{Lang, start}
use Rattle.problem_core.specs.declared.parts.Constraint.{Constraint}
use Rattle.problem_core.specs.Problems.{Parts, fact_on}
use Rattle.deriv_core.specs.Steps as step_tests
use Rattle.deriv_core.specs.Steps.{TreeStep, rule_of, step_fact}
use Rattle.extract_core.specs.Derivings.{IsDerivation, Serves}
use Rattle.answer_core.specs.Verdicts as tests
use Rattle.answer_core.specs.Verdicts.{Passes}
use Rattle.answer_laws.specs.Valid.{IsListed}
use Rattle.answer_laws.proofs.Counting.{nests_less}
use Rattle.answer_laws.proofs.Valid.{valid_answers_read_back}
use Rattle.solved_laws.specs.Laws.{SolvedAnswersReadBack, answer_of}

there : {X : Type 0} (o : Option X) → is_some o ≡ true → (x : X) × (o ≡ Some x)
there None e = absurd (cc)
there (Some x) e = (x, refl)

-- two lists that maps make equal, at one place
matched : {X Y Z : Type 0} (f : X → Z) (g : Y → Z) (xs : List X) (ys : List Y) (k : ℕ) → map f xs ≡ map g ys → option_map f (slice_get xs k) ≡ option_map g (slice_get ys k)
matched f g xs ys k e = sym (slice_get-map f xs k) ∙ ap (λ zs. slice_get zs k) e ∙ slice_get-map g ys k

-- what the other side has there
other_by : {Y Z : Type 0} (g : Y → Z) (o : Option Y) (z : Z) → Some z ≡ option_map g o → (y : Y) × (z ≡ g y)
other_by g None z e = absurd (none-some z (sym e))
other_by g (Some y) z e = (y, same_Some z (g y) e)

other : {X Y Z : Type 0} (f : X → Z) (g : Y → Z) (xs : List X) (ys : List Y) (k : ℕ) (x : X) → map f xs ≡ map g ys → slice_get xs k ≡ Some x → (y : Y) × (f x ≡ g y)
other f g xs ys k x e at = other_by g (slice_get ys k) (f x) (sym (ap (option_map f) at) ∙ matched f g xs ys k e)

slice_get-take : {X : Type 0} (n : ℕ) (xs : List X) (k : ℕ) → k < n → slice_get (take n xs) k ≡ slice_get xs k
slice_get-take zero xs k h = absurd (omega (arith, h))
slice_get-take (suc n) [] k h = refl
slice_get-take (suc n) (x ∷ xs) zero h = refl
slice_get-take (suc n) (x ∷ xs) (suc k) h = slice_get-take n xs k (omega (arith, h))

-- the term of a fact that a call has
fact_term : (r : RelId) (term : Option Tree) (args : Option (List Value)) (fact : Fact) → Some fact ≡ fact_of r term args → term ≡ Some fact.term
fact_term r None None fact e = absurd (none-some fact (sym e))
fact_term r None (Some args) fact e = absurd (none-some fact (sym e))
fact_term r (Some t) None fact e = absurd (none-some fact (sym e))
fact_term r (Some t) (Some args) fact e = ap Some (sym (ap (λ f. f.term) (same_Some fact (record { relation = r; term = t; args = args }) e)))

-- a call is on the term or on a child
callee_below : (root t : Tree) (who : Who) (s : Tree) → IsSubterm t root → term_at t who ≡ Some s → IsSubterm s root
callee_below root t Own s sub e = subst (λ u. IsSubterm u root) (same_Some t s e) sub
callee_below root t (Child i) s sub e = child_of_subterm s sub (i, slice_get_within (kids_of t) i s e, get_or_from_slice_get (kids_of t) i s s e)

module _ (problem : Parts) (height : ℕ) (t : Tree) (steps : List TreeStep) (derived : List ℕ) (derivation : IsDerivation problem height t steps derived) where
  abbrev fact_at : ℕ → Option Fact
  fact_at k = option_map (step_fact problem.signature) (slice_get steps k)

  pub one_each : length derived ≡ length problem.constraints
  one_each = sym (length-map derived fact_at) ∙ ap length derivation.facts ∙ length-map problem.constraints (λ c. Some (fact_on t c))

  met_by : (o : Option ℕ) (c : Option Constraint) → option_map fact_at o ≡ option_map (λ c. Some (fact_on t c)) c → option_and_then fact_at o ≡ option_map (fact_on t) c
  met_by None None e = refl
  met_by None (Some c) e = absurd (cc)
  met_by (Some k) None e = absurd (cc)
  met_by (Some k) (Some c) e = same_Some (fact_at k) (Some (fact_on t c)) e

  -- the node of a constraint's step is the term
  own_node : (k : ℕ) (step : TreeStep) → slice_get steps k ≡ Some step → Contains derived k → step.node ≡ t
  own_node k step at (i, h, e) =
      let stands : slice_get derived i ≡ Some k = slice_get-get_or derived i k h ∙ ap Some e in
      let constraint = other fact_at (λ c. Some (fact_on t c)) derived problem.constraints i k derivation.facts stands in
      let fact : Some (step_fact problem.signature step) ≡ Some (fact_on t constraint.0) = sym (ap (option_map (step_fact problem.signature)) at) ∙ constraint.1 in
      ap (λ f. f.term) (same_Some (step_fact problem.signature step) (fact_on t constraint.0) fact)

  -- that of a premise is the node of the step that it serves, or a child of it
  premise_below : (k : ℕ) (step : TreeStep) → slice_get steps k ≡ Some step → (serves : Serves steps k) → IsSubterm serves.step.node t → IsSubterm step.node t
  premise_below k step at serves sub =
      let parent = serves.step in
      let earlier = take serves.number steps in
      let passes = derivation.valid serves.number parent serves.at in
      let rule = there (rule_of problem.rules parent) (passes step_tests.rule_exists) in
      let premise = serves.premise in
      let stands : slice_get parent.premises premise.0 ≡ Some k = slice_get-get_or parent.premises premise.0 k premise.1 ∙ ap Some premise.2 in
      let call = other (λ p. option_map (step_fact problem.signature) (slice_get earlier p)) (call_fact problem.signature parent.node parent.values) parent.premises (calls_of rule.0.atoms) premise.0 k (passes step_tests.premises_match rule.0 rule.1) stands in
      let here : slice_get earlier k ≡ Some step = slice_get-take serves.number steps k serves.later ∙ at in
      let fact : Some (step_fact problem.signature step) ≡ call_fact problem.signature parent.node parent.values call.0 = sym (ap (option_map (step_fact problem.signature)) here) ∙ call.1 in
      callee_below t parent.node call.0.who step.node sub (fact_term call.0.relation (term_at parent.node call.0.who) _ (step_fact problem.signature step) fact)

  -- from the last step on down
  node_below : (n k : ℕ) → length steps ≤ n + k → (step : TreeStep) → slice_get steps k ≡ Some step → IsSubterm step.node t
  node_below zero k h step at = absurd (omega (arith, h, slice_get_within steps k step at))
  node_below (suc n) k h step at = elim (derivation.used k (slice_get_within steps k step at)) [
    | inl own ↦ subst (λ u. IsSubterm u t) (sym (own_node k step at own)) itself
    | inr serves ↦ premise_below k step at serves (node_below n serves.number (omega (arith, h, serves.later)) serves.step serves.at)
  ]

  module _ (member : Lang problem.grammar start t) (nodes : List Tree) (listed : AreNodesOf t nodes) where
    answer_valid : (test : tests.Test) → Passes problem height (answer_of t nodes steps derived) test
    answer_valid tests.nodes_listed = listed
    answer_valid tests.size_right = refl
    answer_valid tests.in_language = member
    answer_valid tests.steps_valid = derivation.valid
    answer_valid tests.constraints_met = λ k h. met_by (slice_get derived k) (slice_get problem.constraints k) (matched fact_at (λ c. Some (fact_on t c)) derived problem.constraints k derivation.facts)

    answer_listed : size t ≤ 199 → length steps ≤ 2 ^ 64 → IsListed problem (answer_of t nodes steps derived)
    answer_listed small few = record {
      small = omega (arith, small);
      nests = omega (arith, small, nests_less t);
      each = one_each;
      listed = λ k d h. (listed.subterms (get_or steps k d).node).1 (node_below (length steps) k (omega arith) (get_or steps k d) (slice_get-get_or steps k d h));
      few_steps = few;
    }

pub solved_answers_read_back : SolvedAnswersReadBack
solved_answers_read_back problem sound names height t member small steps derived derivation few text printed =
    let nodes = printed.nodes in
    let valid = answer_valid problem height t steps derived derivation member nodes printed.listed in
    let back = valid_answers_read_back problem sound names height (answer_of t nodes steps derived) valid (answer_listed problem height t steps derived derivation member nodes printed.listed small few) in record {
      nodes = nodes;
      forms = back.0;
      spelled = subst (λ bytes. Spell bytes back.0) (sym printed.is) back.1;
      read = back.2;
      valid = valid;
    }
