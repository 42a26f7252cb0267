-- The first steps on a solving term derive the constraints.
use Rattle.std.proofs.Common.{◌≡◌, ℕ, zero, suc, Some, option_map, List, [], ◌∷◌, map, length, slice_get, All, Contains, refl, sym, ap, ap₂, ◌∙◌, subst, inl, inr, arith}
use Rattle.std.proofs.lemmas.List.Elements.{All-map}
use Rattle.std.proofs.lemmas.Option.{none-some}
use Rattle.term_core.specs.declared.tree.Tree.{Tree}
use Rattle.rule_core.specs.declared.rule.Rule.{Rule}
use Rattle.sig_core.specs.Signatures.{Declarations}
use Rattle.rule_core.specs.Instances.{Fact}
use Rattle.problem_core.specs.declared.parts.Constraint.{Constraint}
use Rattle.problem_core.specs.Derivations.{Within}
use Rattle.problem_core.specs.Problems.{Parts, Solves, fact_on}
use Rattle.deriv_core.specs.Steps.{TreeStep, step_fact}
use Rattle.extract_core.specs.Additions.{Adds, AddsEach, HasFact, facts_of, step_of}
use Rattle.extract_core.specs.Derivings.{IsDerivation}
use Rattle.extract_core.specs.FirstSteps.{AreFirstSteps}
use Rattle.extract_core.specs.Growth.{AreWithin}
use Rattle.extract_core.specs.Tidiness.{IsTidy}
use Rattle.extract_core.proofs.Adding.{adds_extends, adds_within, each_extends, each_within}
use Rattle.extract_core.proofs.Listing.{contains_has, get_last, has_extended}
use Rattle.extract_core.proofs.Uniqueness.{adds_tidy, adds_once, each_tidy, each_once, tidy_valid}
use Rattle.extract_core.proofs.Using.{adds_used, each_used, premise_of, same_number}

pub none_tidy : (sig : Declarations) (rules : List Rule) → IsTidy sig rules []
none_tidy sig rules = record {
  valid = λ k step e. absurd (none-some step e);
  distinct = λ j k s s' l e e'. absurd (none-some s e);
  least = λ k step e. absurd (none-some step e);
}

-- the fact is there once it is added
adds_has : (sig : Declarations) (rules : List Rule) (bound : ℕ) (steps : List TreeStep) (fact : Fact) (new : List TreeStep) → Adds sig rules bound steps fact new → (k : ℕ) × HasFact sig new k fact
adds_has sig rules zero steps fact new a = contains_has sig new fact (subst (λ ss. Contains (facts_of sig ss) fact) (sym a.1) a.0)
adds_has sig rules (suc bound) steps fact new (inl a) = contains_has sig new fact (subst (λ ss. Contains (facts_of sig ss) fact) (sym a.1) a.0)
adds_has sig rules (suc bound) steps fact new (inr a) =
    let step = step_of fact a.number a.slots a.premises in
    (length a.more, ap (λ ss. option_map (step_fact sig) (slice_get ss (length a.more))) a.last ∙ ap (option_map (step_fact sig)) (get_last a.more step) ∙ ap (λ args. Some (record { relation = fact.relation; term = fact.term; args = args })) a.first.gives.args)

-- numbers of steps with the facts
each_has : (sig : Declarations) (rules : List Rule) (bound : ℕ) (facts : List Fact) (steps new : List TreeStep) → AddsEach (Adds sig rules bound) steps facts new
    → (ks : List ℕ) × (map (λ k. option_map (step_fact sig) (slice_get new k)) ks ≡ map Some facts)
each_has sig rules bound [] steps new e = ([], refl)
each_has sig rules bound (f ∷ facts) steps new (mid, a, rest) =
    let here = adds_has sig rules bound steps f mid a in
    let others = each_has sig rules bound facts mid new rest in
    (here.0 ∷ others.0, ap₂ (λ x xs. x ∷ xs) (has_extended sig mid new here.0 f (each_extends (Adds sig rules bound) (adds_extends sig rules bound) facts mid new rest) here.1) others.1)

mapped_twice : (t : Tree) (cs : List Constraint) → map Some (map (fact_on t) cs) ≡ map (λ c. Some (fact_on t c)) cs
mapped_twice t [] = refl
mapped_twice t (c ∷ cs) = ap (λ fs. Some (fact_on t c) ∷ fs) (mapped_twice t cs)

pub first_steps_derive : (problem : Parts) (bound : ℕ) (t : Tree) (steps : List TreeStep) → Solves problem bound t → AreFirstSteps problem bound t steps → (derived : List ℕ) × IsDerivation problem bound t steps derived
first_steps_derive problem bound t steps solves adds =
    let sig = problem.signature in
    let rules = problem.rules in
    let facts = map (fact_on t) problem.constraints in
    let A = Adds sig rules bound in
    let tidy = each_tidy sig rules A (adds_tidy sig rules bound) facts [] steps (none_tidy sig rules) adds in
    let all : All (Within sig rules bound) facts = All-map (Within sig rules bound) (fact_on t) problem.constraints solves in
    let within : AreWithin sig rules bound 0 steps = λ k step l e. elim (each_within sig rules bound A (λ s f n w. adds_within sig rules bound bound s f n w) facts [] steps all adds k step e) [
      | inl old ↦ absurd (none-some step old)
      | inr d ↦ d
    ] in
    let ks = each_has sig rules bound facts [] steps adds in (
      ks.0,
      record {
        valid = tidy_valid sig rules bound steps tidy within;
        tidy = tidy;
        facts = ks.1 ∙ mapped_twice t problem.constraints;
        used = λ k l. elim (each_used sig A (adds_extends sig rules bound) (adds_used sig rules bound) facts [] steps tidy.distinct adds k (omega arith) l) [
          | inl u ↦ (let c = u.1 in
              let p = premise_of sig steps ks.0 facts u.0 ks.1 c.0 c.1 c.2 in
              inl (subst (Contains ks.0) (same_number sig steps u.0 p.0 k tidy.distinct p.2 u.2) p.1))
          | inr s ↦ inr s
        ];
      },
    )

pub one_list : (problem : Parts) (bound : ℕ) (t : Tree) (steps other : List TreeStep) → AreFirstSteps problem bound t steps → AreFirstSteps problem bound t other → steps ≡ other
one_list problem bound t steps other a b =
    each_once problem.signature problem.rules (Adds problem.signature problem.rules bound) (adds_tidy problem.signature problem.rules bound) (adds_once problem.signature problem.rules bound)
    (map (fact_on t) problem.constraints) [] steps other (none_tidy problem.signature problem.rules) a b
