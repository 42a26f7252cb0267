-- Outcomes settle each fact, so that alikeness is agreement in least heights.
use Rattle.std.proofs.Common.{◌≡◌, ◌⊎◌, inl, inr, ℕ, zero, suc, ◌<◌, List, [], ◌∷◌, map, Contains, refl, sym, ap, ◌∙◌, subst, arith}
use Rattle.std.specs.declared.cmp.Ordering.{Ordering}
use Rattle.std.specs.declared.cmp.Ordering.TheVariants.{Less, Equal, Greater}
use Rattle.std.proofs.lemmas.List.Elements.{All-contains}
use Rattle.sig_core.specs.declared.value.Value.{Value}
use Rattle.sig_core.specs.declared.ids.TypeId.{TypeId}
use Rattle.sig_core.specs.declared.ids.RelId.{RelId}
use Rattle.sig_core.specs.Signatures.{kinds_of, outputs_of, woven}
use Rattle.term_core.specs.declared.tree.Tree.{Tree}
use Rattle.rule_core.specs.Instances.{Fact}
use Rattle.problem_core.specs.Derivations.{Within, IsLeastHeight}
use Rattle.problem_core.specs.Problems.{Parts}
use Rattle.eval_core.proofs.LeastHeights.{agreeing_is_same, same_is_agreeing}
use Rattle.eval_core.specs.declared.outcome.Outcome.{Outcome}
use Rattle.eval_core.specs.Merging.{outputs_cmp}
use Rattle.eval_core.specs.Outcomes.{fact_with, AreInputs, IsOutcome, AreOutcomes}
use Rattle.eval_core.specs.Marks.{Probe, IsProbe, AnswerProbes, probes_of}
use Rattle.eval_core.specs.Words.{AgreeInEach}
use Rattle.eval_core.proofs.Facts.{own_sorted}
use Rattle.eval_core.proofs.Inputs.{woven_again}
use Rattle.eval_core.proofs.Probing.{Contains-map, Contains-mapped, probes_are_all}
use Rattle.eval_core.proofs.Deciding.{zip_found}
use Rattle.eval_core.proofs.Telling.{outputs_tell}
use Rattle.eval_core.specs.Alikeness.{IsAlike, example_of}
use Rattle.eval_core.specs.FactHeights.{IsSettled}

one_or_other : (xs ys : List Value) (o : Ordering) → outputs_cmp xs ys ≡ o → (xs ≡ ys) ⊎ ¬ (xs ≡ ys)
one_or_other xs ys Equal e = inl ((outputs_tell xs ys).0 e)
one_or_other xs ys Less e = inr (λ same. (let is : Less ≡ Equal = sym e ∙ (outputs_tell xs ys).1 same in cc))
one_or_other xs ys Greater e = inr (λ same. (let is : Greater ≡ Equal = sym e ∙ (outputs_tell xs ys).1 same in cc))

not_listed : (xs : List Value) (lists : List (List Value)) (outputs : List Value) → ¬ (xs ≡ outputs) → ¬ Contains lists outputs → ¬ Contains (xs ∷ lists) outputs
not_listed xs lists outputs differ none (zero, l, e) = differ e
not_listed xs lists outputs differ none (suc k, l, e) = none (k, omega arith, e)

-- whether the outputs are listed
listed_or_not : (lists : List (List Value)) (outputs : List Value) → Contains lists outputs ⊎ ¬ Contains lists outputs
listed_or_not [] outputs = inr (λ c. (let none : c.0 < 0 = c.1 in omega arith))
listed_or_not (xs ∷ lists) outputs = elim (one_or_other xs outputs (outputs_cmp xs outputs) refl) [
  | inl same ↦ inl (0, omega arith, same)
  | inr differ ↦ elim (listed_or_not lists outputs) [
    | inl c ↦ inl (suc c.0, (let l = c.1 in omega arith), c.2)
    | inr none ↦ inr (not_listed xs lists outputs differ none)
  ]
]

pub outcomes_settle : (problem : Parts) (bound : ℕ) (r : RelId) (t : Tree) (inputs : List Value) (outcomes : List Outcome) (outputs : List Value) → AreInputs problem.signature r inputs
    → AreOutcomes problem.signature problem.rules bound r t inputs outcomes → IsSettled problem bound (fact_with problem.signature r t inputs outputs)
outcomes_settle problem bound r t inputs outcomes outputs sorts are =
    let sig = problem.signature in
    let rules = problem.rules in
    let ks = kinds_of sig r in
    let own = outputs_of ks (woven ks inputs outputs) in
    let same : woven ks inputs own ≡ woven ks inputs outputs = woven_again ks inputs outputs in
    let fact : List Value → Fact = λ args. record { relation = r; term = t; args = args } in
    elim (listed_or_not (map (λ o. o.outputs) outcomes) own) [
      | inl c ↦
          (let found = Contains-map (λ o. o.outputs) outcomes own c in
          let is = All-contains (IsOutcome sig rules bound r t inputs) outcomes found.0 are.sound found.1 in
          inl (found.0.height, is.low, subst (λ args. IsLeastHeight sig rules (fact args) found.0.height) (ap (woven ks inputs) found.2 ∙ same) is.least))
      | inr none ↦ inr (λ d. none (are.complete own (own_sorted sig rules r t inputs outputs bound d) (subst (λ args. Within sig rules bound (fact args)) (sym same) d)))
    ]

pub agreeing_is_alike : (problem : Parts) (type : TypeId) (bound : ℕ) (t u : Tree) → AgreeInEach problem type bound t u → IsAlike problem type bound t u
agreeing_is_alike problem type bound t u agree = record {
  left = agree.left;
  right = agree.right;
  same = λ r example outputs typed is_example sorts.
      (let inputs = example_of problem.signature example in
      agreeing_is_same problem bound (fact_with problem.signature r t inputs outputs) (fact_with problem.signature r u inputs outputs) (agree.agree r example outputs typed is_example sorts));
}

pub alike_is_agreeing : (problem : Parts) (type : TypeId) (bound : ℕ) (t u : Tree) (lists : List (List Outcome)) → AnswerProbes problem bound (probes_of problem type) t lists
    → IsAlike problem type bound t u → AgreeInEach problem type bound t u
alike_is_agreeing problem type bound t u lists answers alike = record {
  left = alike.left;
  right = alike.right;
  agree = λ r example outputs typed is_example sorts.
      (let sig = problem.signature in
      let inputs = example_of sig example in
      let Of : Probe → List Outcome → Type 0 = λ probe outcomes. AreOutcomes sig problem.rules bound probe.relation t probe.inputs outcomes in
      let probe : Probe = record { relation = r; inputs = inputs } in
      let is : IsProbe problem type probe = record { typed = typed; example = Contains-mapped (example_of sig) problem.constraints example is_example; sorted = sorts } in
      let found = zip_found Of Of (probes_of problem type) lists probe answers answers ((probes_are_all problem type).complete probe is) in
      same_is_agreeing problem bound (fact_with sig r t inputs outputs) (fact_with sig r u inputs outputs)
      (outcomes_settle problem bound r t inputs found.0 outputs sorts found.1) (alike.same r example outputs typed is_example sorts));
}
