-- Constraints derived on a term one after the other.
use Rattle.std.proofs.Common.{◌≡◌, ◌+◌, ◌<◌, ◌≤◌, ℕ, Some, option_map, List, [], ◌∷◌, ◌++◌, map, take, length, slice_get, slice_index_or, All, refl, sym, ap, ap₂, subst, ◌∙◌}
use Rattle.std.proofs.lemmas.List.{map-append, take_all, take_more}
use Rattle.std.proofs.lemmas.List.Elements.{All-nil}
use Rattle.sig_core.specs.Signatures.{Declarations}
use Rattle.term_core.specs.declared.tree.Tree.{Tree}
use Rattle.rule_core.specs.declared.rule.Rule.{Rule}
use Rattle.rule_core.specs.Instances.{Fact}
use Rattle.problem_core.specs.declared.parts.Constraint.{Constraint}
use Rattle.term_core.specs.Banks.{IsLive}
use Rattle.problem_core.specs.Derivations.{Within}
use Rattle.problem_core.specs.Problems.{Parts, Solves, fact_on}
use Rattle.deriv_core.specs.declared.parts.Step.{Step}
use Rattle.deriv_core.specs.declared.parts.StepId.{StepId}
use Rattle.eval_core.specs.Evaluations.{Evaluation, StandsFor}
use Rattle.extract_core.specs.Searches.{StillServes}
use Rattle.deriv_core.specs.Steps.{TreeStep, step_fact, tree_steps}
use Rattle.extract_core.specs.Additions.{Adds, AddsEach, HasFact}
use Rattle.extract_core.specs.Derivings.{IsDerivation}
use Rattle.extract_core.specs.Tidiness.{IsTidy}
use Rattle.extract_core.proofs.Adding.{adds_extends, facts_kept}
use Rattle.extract_core.proofs.FirstSteps.{first_steps_derive, none_tidy}
use Rattle.extract_core.proofs.Using.{AreDistinct, same_number}
use Rattle.solution_core.specs.Stepping.{AreLive, DeriveEach}

pub none_derived : (sig : Declarations) (rules : List Rule) (height : ℕ) (t : Tree) → DeriveEach sig rules height t [] [] []
none_derived sig rules height t = record { tidy = none_tidy sig rules; adds = refl; facts = refl }

each_push : (A : List TreeStep → Fact → List TreeStep → Type 0) (facts : List Fact) (steps mid new : List TreeStep) (f : Fact) → AddsEach A steps facts mid → A mid f new → AddsEach A steps (facts ++ f ∷ []) new
each_push A [] steps mid new f e a = (new, subst (λ s. A s f new) e a, refl)
each_push A (g ∷ facts) steps mid new f (next, b, rest) a = (next, b, each_push A facts next mid new f rest a)

-- one constraint more
pub one_more : (sig : Declarations) (rules : List Rule) (height : ℕ) (t : Tree) (constraints : List Constraint) (c : Constraint) (old new : List TreeStep) (derived : List ℕ) (id : ℕ) →
    DeriveEach sig rules height t constraints old derived → IsTidy sig rules new → Adds sig rules height old (fact_on t c) new → HasFact sig new id (fact_on t c) →
    DeriveEach sig rules height t (constraints ++ c ∷ []) new (derived ++ id ∷ [])
one_more sig rules height t constraints c old new derived id d tidy adds has =
    let at = λ (steps : List TreeStep) (k : ℕ). option_map (step_fact sig) (slice_get steps k) in
    let facts = map (fact_on t) constraints in
    let kept = facts_kept sig old new derived facts (adds_extends sig rules height old (fact_on t c) new adds) d.facts in
    record {
      tidy = tidy;
      adds = subst (λ fs. AddsEach (Adds sig rules height) [] fs new) (sym (map-append (fact_on t) constraints (c ∷ []))) (each_push (Adds sig rules height) facts [] old new (fact_on t c) d.adds adds);
      facts = map-append (at new) derived (id ∷ []) ∙ ap₂ (λ xs x. xs ++ x ∷ []) kept has
          ∙ sym (map-append Some facts (fact_on t c ∷ [])) ∙ ap (map Some) (sym (map-append (fact_on t) constraints (c ∷ [])));
    }

same_numbers : (sig : Declarations) (steps : List TreeStep) (facts : List Fact) (ps qs : List ℕ) → AreDistinct sig steps →
    map (λ k. option_map (step_fact sig) (slice_get steps k)) ps ≡ map Some facts → map (λ k. option_map (step_fact sig) (slice_get steps k)) qs ≡ map Some facts → ps ≡ qs
same_numbers sig steps [] [] [] distinct e f = refl
same_numbers sig steps [] (p ∷ ps) qs distinct e f = absurd (cc)
same_numbers sig steps [] [] (q ∷ qs) distinct e f = absurd (cc)
same_numbers sig steps (g ∷ facts) [] qs distinct e f = absurd (cc)
same_numbers sig steps (g ∷ facts) (p ∷ ps) [] distinct e f = absurd (cc)
same_numbers sig steps (g ∷ facts) (p ∷ ps) (q ∷ qs) distinct e f =
    ap₂ (λ x xs. x ∷ xs) (same_number sig steps g p q distinct (cc) (cc)) (same_numbers sig steps facts ps qs distinct (cc) (cc))

mapped_twice : (t : Tree) (cs : List Constraint) → map Some (map (fact_on t) cs) ≡ map (λ c. Some (fact_on t c)) cs
mapped_twice t [] = refl
mapped_twice t (c ∷ cs) = ap (λ fs. Some (fact_on t c) ∷ fs) (mapped_twice t cs)

-- all constraints derive the problem's
pub all_derived : (problem : Parts) (height : ℕ) (t : Tree) (steps : List TreeStep) (derived : List ℕ) → Solves problem height t →
    DeriveEach problem.signature problem.rules height t problem.constraints steps derived → IsDerivation problem height t steps derived
all_derived problem height t steps derived solves d =
    let first = first_steps_derive problem height t steps solves d.adds in
    let same = same_numbers problem.signature steps (map (fact_on t) problem.constraints) first.0 derived d.tidy.distinct (first.1.facts ∙ sym (mapped_twice t problem.constraints)) d.facts in
    subst (IsDerivation problem height t steps) same first.1

-- so far: the evaluator is of the problem's rules, and these constraints are derived by the steps
pub record Deriving (problem : Parts) (height : ℕ) (bank : List Tree) (t : Tree) (evaluator : Evaluation) (steps : List Step) (constraints : List Constraint) (derived : List StepId) : Type 0 where
  pub signature : evaluator.signature ≡ problem.signature
  pub rules : evaluator.rules ≡ problem.rules
  pub stands : StandsFor evaluator bank
  pub live : AreLive bank steps
  pub each : DeriveEach problem.signature problem.rules height t constraints (tree_steps bank steps) (map (λ (id : StepId). id.0) derived)

pub starting : (problem : Parts) (height : ℕ) (bank : List Tree) (t : Tree) (evaluator : Evaluation) (steps : List Step) (derived : List StepId) →
    evaluator.signature ≡ problem.signature → evaluator.rules ≡ problem.rules → StandsFor evaluator bank → steps ≡ [] → derived ≡ [] → Deriving problem height bank t evaluator steps [] derived
starting problem height bank t evaluator steps derived signature rules stands none no_ids = record {
  signature = signature;
  rules = rules;
  stands = stands;
  live = subst (AreLive bank) (sym none) (All-nil (λ (step : Step). IsLive bank step.node));
  each = subst (λ (ss : List Step). DeriveEach problem.signature problem.rules height t [] (tree_steps bank ss) (map (λ (id : StepId). id.0) derived)) (sym none)
      (subst (λ (ids : List StepId). DeriveEach problem.signature problem.rules height t [] [] (map (λ (id : StepId). id.0) ids)) (sym no_ids) (none_derived problem.signature problem.rules height t));
}

pub within_at : (problem : Parts) (height : ℕ) (t : Tree) (evaluator : Evaluation) (constraints : List Constraint) (i : ℕ) (c : Constraint) → Solves problem height t →
    constraints ≡ problem.constraints → c ≡ slice_index_or constraints i c → i < length constraints → evaluator.signature ≡ problem.signature → evaluator.rules ≡ problem.rules →
    Within evaluator.signature evaluator.rules height (fact_on t c)
within_at problem height t evaluator constraints i c solves same is bound signature rules =
    let P = λ (x : Constraint). Within problem.signature problem.rules height (fact_on t x) in
    let all : All P constraints = subst (All P) (sym same) solves in
    let here : P c = subst P (sym is) (all i c bound) in
    subst (λ sig. Within sig evaluator.rules height (fact_on t c)) (sym signature) (subst (λ rules. Within problem.signature rules height (fact_on t c)) (sym rules) here)

pub tidy_of : (problem : Parts) (evaluator : Evaluation) (steps : List TreeStep) → evaluator.signature ≡ problem.signature → evaluator.rules ≡ problem.rules →
    IsTidy problem.signature problem.rules steps → IsTidy evaluator.signature evaluator.rules steps
tidy_of problem evaluator steps signature rules tidy =
    subst (λ sig. IsTidy sig evaluator.rules steps) (sym signature) (subst (λ rules. IsTidy problem.signature rules steps) (sym rules) tidy)

pub going_on : (problem : Parts) (height : ℕ) (bank : List Tree) (t : Tree) (evaluator later : Evaluation) (steps more : List Step) (constraints : List Constraint) (i : ℕ) (c : Constraint) (derived ids : List StepId) (id : StepId) →
    Deriving problem height bank t evaluator steps (take i constraints) derived → StillServes evaluator later bank → AreLive bank more →
    IsTidy evaluator.signature evaluator.rules (tree_steps bank more) → Adds evaluator.signature evaluator.rules height (tree_steps bank steps) (fact_on t c) (tree_steps bank more) →
    HasFact evaluator.signature (tree_steps bank more) id.0 (fact_on t c) → ids ≡ derived ++ id ∷ [] → c ≡ slice_index_or constraints i c → i < length constraints →
    Deriving problem height bank t later more (take (i + 1) constraints) ids
going_on problem height bank t evaluator later steps more constraints i c derived ids id d serves live tidy adds has grown is bound =
    let number = λ (id : StepId). id.0 in
    let tidy' : IsTidy problem.signature problem.rules (tree_steps bank more) =
    subst (λ sig. IsTidy sig problem.rules (tree_steps bank more)) d.signature (subst (λ rules. IsTidy evaluator.signature rules (tree_steps bank more)) d.rules tidy) in
    let adds' : Adds problem.signature problem.rules height (tree_steps bank steps) (fact_on t c) (tree_steps bank more) =
    subst (λ sig. Adds sig problem.rules height (tree_steps bank steps) (fact_on t c) (tree_steps bank more)) d.signature
    (subst (λ rules. Adds evaluator.signature rules height (tree_steps bank steps) (fact_on t c) (tree_steps bank more)) d.rules adds) in
    let has' : HasFact problem.signature (tree_steps bank more) id.0 (fact_on t c) = subst (λ sig. HasFact sig (tree_steps bank more) id.0 (fact_on t c)) d.signature has in
    let next = one_more problem.signature problem.rules height t (take i constraints) c (tree_steps bank steps) (tree_steps bank more) (map number derived) id.0 d.each tidy' adds' has' in
    let taken : take i constraints ++ c ∷ [] ≡ take (i + 1) constraints = ap (λ x. take i constraints ++ x ∷ []) is ∙ sym (take_more constraints i c bound) in
    let numbers : map number derived ++ id.0 ∷ [] ≡ map number ids = sym (map-append number derived (id ∷ [])) ∙ ap (map number) (sym grown) in
    record {
      signature = serves.signature ∙ d.signature;
      rules = serves.rules ∙ d.rules;
      stands = serves.stands;
      live = live;
      each = subst (λ cs. DeriveEach problem.signature problem.rules height t cs (tree_steps bank more) (map number ids)) taken
          (subst (λ ns. DeriveEach problem.signature problem.rules height t (take i constraints ++ c ∷ []) (tree_steps bank more) ns) numbers next);
    }

pub all_done : (problem : Parts) (height : ℕ) (bank : List Tree) (t : Tree) (evaluator : Evaluation) (steps : List Step) (constraints : List Constraint) (i : ℕ) (derived : List StepId) →
    Solves problem height t → constraints ≡ problem.constraints → length constraints ≤ i → Deriving problem height bank t evaluator steps (take i constraints) derived →
    IsDerivation problem height t (tree_steps bank steps) (map (λ (id : StepId). id.0) derived)
all_done problem height bank t evaluator steps constraints i derived solves same whole d =
    all_derived problem height t (tree_steps bank steps) (map (λ (id : StepId). id.0) derived) solves
    (subst (λ cs. DeriveEach problem.signature problem.rules height t cs (tree_steps bank steps) (map (λ (id : StepId). id.0) derived)) (take_all i constraints whole ∙ same) d.each)
