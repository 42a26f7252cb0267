-- Equal outcomes at each probe are those of alike terms.
use Rattle.std.proofs.Common.{◌≡◌, ◌≤◌, ◌↔◌, ℕ, zero, suc, Some, List, [], ◌∷◌, Contains, refl, sym, ap, ap₂, ◌∙◌, subst, arith}
use Rattle.std.specs.List.{AllZip}
use Rattle.std.specs.declared.cmp.Ordering.TheVariants.{Less}
use Rattle.std.proofs.lemmas.List.Elements.{All-contains}
use Rattle.std.proofs.lemmas.Option.{same_Some}
use Rattle.sig_core.specs.declared.value.Value.{Value}
use Rattle.sig_core.specs.declared.ids.TypeId.{TypeId}
use Rattle.sig_core.specs.declared.ids.RelId.{RelId}
use Rattle.sig_core.specs.Signatures.{kinds_of, outputs_of, woven, owner_of}
use Rattle.term_core.specs.declared.tree.Tree.{Tree}
use Rattle.term_core.specs.Terms.{con_of}
use Rattle.rule_core.specs.Instances.{Fact}
use Rattle.problem_core.specs.Derivations.{Within, IsLeastHeight}
use Rattle.problem_core.specs.Problems.{Parts}
use Rattle.problem_core.proofs.Heights.{Within-rises}
use Rattle.eval_core.proofs.LeastHeights.{same_least_heights}
use Rattle.eval_core.specs.declared.outcome.Outcome.{Outcome}
use Rattle.eval_core.specs.Merging.{outputs_cmp}
use Rattle.eval_core.specs.Outcomes.{fact_with, AreInputs, IsOutcome, AreOutcomes}
use Rattle.eval_core.specs.declared.mark.Mark.{Mark}
use Rattle.eval_core.specs.Marks.{Probe, IsProbe, AreProbes, AnswerProbes, IsMarkOf, probes_of}
use Rattle.eval_core.proofs.Probing.{Contains-map, Contains-mapped, probes_are_all}
use Rattle.eval_core.specs.Alikeness.{AreAlike, IsAlike, example_of}
use Rattle.eval_core.proofs.Alike.{both_ways}
use Rattle.eval_core.proofs.Inputs.{woven_again}
use Rattle.eval_core.proofs.Facts.{own_sorted, one_least, least_reached}
use Rattle.eval_core.proofs.OutputOrder.{outputs_cmp-total, never_before_itself}
use Rattle.lens_core.proofs.Rising.{one_rising}
use Rattle.eval_core.specs.FactHeights.{SameHeights}

-- what two lists have beside each item of a third
zip_same : {X Y : Type 0} (R S : X → Y → Type 0) (xs : List X) (ys zs : List Y) → AllZip R xs ys → AllZip S xs zs → ((x : X) (y z : Y) → Contains xs x → R x y → S x z → y ≡ z) → ys ≡ zs
zip_same R S [] [] [] r s same = refl
zip_same R S [] [] (z ∷ zs) r s same = absurd s
zip_same R S [] (y ∷ ys) zs r s same = absurd r
zip_same R S (x ∷ xs) [] zs r s same = absurd r
zip_same R S (x ∷ xs) (y ∷ ys) [] r s same = absurd s
zip_same R S (x ∷ xs) (y ∷ ys) (z ∷ zs) r s same =
    ap₂ (λ w ws. w ∷ ws) (same x y z (0, omega arith, refl) r.0 s.0) (zip_same R S xs ys zs r.1 s.1 (λ a b c h. same a b c (suc h.0, (let l = h.1 in omega arith), h.2)))

-- one list beside both sides: some item of it stands beside x in both
pub zip_found : {X Y : Type 0} (R S : X → Y → Type 0) (xs : List X) (ys : List Y) (x : X) → AllZip R xs ys → AllZip S xs ys → Contains xs x → (y : Y) × R x y × S x y
zip_found R S [] ys x r s (k, l, e) = absurd (omega arith)
zip_found R S (a ∷ xs) [] x r s c = absurd r
zip_found R S (a ∷ xs) (b ∷ ys) x r s (zero, l, e) = (b, subst (λ z. R z b) e r.0, subst (λ z. S z b) e s.0)
zip_found R S (a ∷ xs) (b ∷ ys) x r s (suc k, l, e) = zip_found R S xs ys x r.1 s.1 (k, omega arith, e)

module _ (problem : Parts) (bound : ℕ) (r : RelId) (inputs : List Value) where
  -- exactly what is an outcome is listed
  listed : (t : Tree) (outcomes : List Outcome) → AreOutcomes problem.signature problem.rules bound r t inputs outcomes → (o : Outcome) → IsOutcome problem.signature problem.rules bound r t inputs o → Contains outcomes o
  listed t outcomes all o is =
      let sig = problem.signature in
      let d = Within-rises sig problem.rules o.height bound (fact_with sig r t inputs o.outputs) is.low is.least.within in
      let found = Contains-map (λ p. p.outputs) outcomes o.outputs (all.complete o.outputs is.sorted d) in
      let other = All-contains (IsOutcome sig problem.rules bound r t inputs) outcomes found.0 all.sound found.1 in
      let least = subst (λ os. IsLeastHeight sig problem.rules (fact_with sig r t inputs os) found.0.height) found.2 other.least in
      let heights : found.0.height ≡ o.height = one_least sig problem.rules (fact_with sig r t inputs o.outputs) found.0.height o.height least is.least in
      let same : found.0 ≡ o = ap₂ (λ os h. record { outputs = os; height = h }) found.2 heights in
      subst (Contains outcomes) same found.1

  same_outcomes : (t u : Tree) (os ps : List Outcome) → AreOutcomes problem.signature problem.rules bound r t inputs os → AreOutcomes problem.signature problem.rules bound r u inputs ps
      → ((o : Outcome) → IsOutcome problem.signature problem.rules bound r t inputs o ↔ IsOutcome problem.signature problem.rules bound r u inputs o) → os ≡ ps
  same_outcomes t u os ps all others same =
      let sig = problem.signature in
      one_rising (λ o p. outputs_cmp o.outputs p.outputs ≡ Less) (λ o. never_before_itself o.outputs) (λ o p q. outputs_cmp-total.trans o.outputs p.outputs q.outputs) os ps all.ascending others.ascending
      (λ o c. listed u ps others o ((same o).0 (All-contains (IsOutcome sig problem.rules bound r t inputs) os o all.sound c)))
      (λ o c. listed t os all o ((same o).1 (All-contains (IsOutcome sig problem.rules bound r u inputs) ps o others.sound c)))

  -- what has the outcomes of t derives what t derives
  derives : (t u : Tree) (outcomes : List Outcome) → AreInputs problem.signature r inputs
      → AreOutcomes problem.signature problem.rules bound r t inputs outcomes → AreOutcomes problem.signature problem.rules bound r u inputs outcomes
      → (outputs : List Value) (h : ℕ) → h ≤ bound → Within problem.signature problem.rules h (fact_with problem.signature r t inputs outputs) → Within problem.signature problem.rules h (fact_with problem.signature r u inputs outputs)
  derives t u outcomes sorts all others outputs h le d =
      let sig = problem.signature in
      let rules = problem.rules in
      let ks = kinds_of sig r in
      let own = outputs_of ks (woven ks inputs outputs) in
      let same : woven ks inputs own ≡ woven ks inputs outputs = woven_again ks inputs outputs in
      let with_args : Tree → List Value → Fact = λ x args. record { relation = r; term = x; args = args } in
      let mine : Within sig rules h (fact_with sig r t inputs own) = subst (λ args. Within sig rules h (with_args t args)) (sym same) d in
      let found = Contains-map (λ p. p.outputs) outcomes own (all.complete own (own_sorted sig rules r t inputs outputs h d) (Within-rises sig rules h bound (fact_with sig r t inputs own) le mine)) in
      let one = All-contains (IsOutcome sig rules bound r t inputs) outcomes found.0 all.sound found.1 in
      let other = All-contains (IsOutcome sig rules bound r u inputs) outcomes found.0 others.sound found.1 in
      let low = least_reached sig rules (fact_with sig r t inputs found.0.outputs) found.0.height h one.least (subst (λ os. Within sig rules h (fact_with sig r t inputs os)) (sym found.2) mine) in
      let theirs = Within-rises sig rules found.0.height h (fact_with sig r u inputs found.0.outputs) low other.least.within in
      subst (λ args. Within sig rules h (with_args u args)) (ap (woven ks inputs) found.2 ∙ same) theirs

-- an outcome of t is one of a term that is alike
outcome_moved : (problem : Parts) (type : TypeId) (bound : ℕ) (t u : Tree) (probe : Probe) → IsProbe problem type probe → IsAlike problem type bound t u
    → (o : Outcome) → IsOutcome problem.signature problem.rules bound probe.relation t probe.inputs o → IsOutcome problem.signature problem.rules bound probe.relation u probe.inputs o
outcome_moved problem type bound t u probe is alike o outcome =
    let sig = problem.signature in
    let found = Contains-map (example_of sig) problem.constraints probe.inputs is.example in
    let same = subst (λ inputs. SameHeights problem bound (fact_with sig probe.relation t inputs o.outputs) (fact_with sig probe.relation u inputs o.outputs)) found.2
    (alike.same probe.relation found.0 o.outputs is.typed found.1 (subst (AreInputs sig probe.relation) (sym found.2) is.sorted)) in
    record {
      sorted = outcome.sorted;
      low = outcome.low;
      least = (same_least_heights problem bound (fact_with sig probe.relation t probe.inputs o.outputs) (fact_with sig probe.relation u probe.inputs o.outputs) same o.height outcome.low).0 outcome.least;
    }

module _ (problem : Parts) (type : TypeId) (bound : ℕ) (probes : List Probe) (are : AreProbes problem type probes) where
  pub equal_lists : (t u : Tree) (lists others : List (List Outcome)) → AnswerProbes problem bound probes t lists → AnswerProbes problem bound probes u others → IsAlike problem type bound t u → lists ≡ others
  equal_lists t u lists others one other alike =
      let Of : Tree → Probe → List Outcome → Type 0 = λ x probe outcomes. AreOutcomes problem.signature problem.rules bound probe.relation x probe.inputs outcomes in
      zip_same (Of t) (Of u) probes lists others one other (λ probe os ps c a b.
      (let is = All-contains (IsProbe problem type) probes probe are.sound c in
      same_outcomes problem bound probe.relation probe.inputs t u os ps a b
      (λ o. (outcome_moved problem type bound t u probe is alike o, outcome_moved problem type bound u t probe is (both_ways problem type bound t u alike) o))))

  pub alike_by_lists : (t u : Tree) (lists : List (List Outcome)) → owner_of problem.signature (con_of t) ≡ Some type → owner_of problem.signature (con_of u) ≡ Some type
      → AnswerProbes problem bound probes t lists → AnswerProbes problem bound probes u lists → IsAlike problem type bound t u
  alike_by_lists t u lists left right one other = record {
    left = left;
    right = right;
    same = λ r example outputs typed is_example sorts h le.
        (let sig = problem.signature in
        let inputs = example_of sig example in
        let Of : Tree → Probe → List Outcome → Type 0 = λ x probe outcomes. AreOutcomes sig problem.rules bound probe.relation x probe.inputs outcomes in
        let probe : Probe = record { relation = r; inputs = inputs } in
        let is : IsProbe problem type probe = record { typed = typed; example = Contains-mapped (example_of sig) problem.constraints example is_example; sorted = sorts } in
        let found = zip_found (Of t) (Of u) probes lists probe one other (are.complete probe is) in (
          derives problem bound r inputs t u found.0 sorts found.1 found.2 outputs h le,
          derives problem bound r inputs u t found.0 sorts found.2 found.1 outputs h le,
        ));
  }

pub outcomes_decide : (problem : Parts) (type : TypeId) (bound : ℕ) (probes : List Probe) (t u : Tree) (lists others : List (List Outcome)) → AreProbes problem type probes
    → owner_of problem.signature (con_of t) ≡ Some type → owner_of problem.signature (con_of u) ≡ Some type → AnswerProbes problem bound probes t lists → AnswerProbes problem bound probes u others
    → (lists ≡ others) ↔ IsAlike problem type bound t u
outcomes_decide problem type bound probes t u lists others are left right one other = (
  λ same. alike_by_lists problem type bound probes are t u lists left right one (subst (AnswerProbes problem bound probes u) (sym same) other),
  equal_lists problem type bound probes are t u lists others one other,
)

pub marks_decide : (problem : Parts) (bound : ℕ) (t u : Tree) (mark other : Mark) → IsMarkOf problem bound t mark → IsMarkOf problem bound u other → (mark ≡ other) ↔ AreAlike problem bound t u
marks_decide problem bound t u mark other one two = (
  λ same.
      (let others : IsMarkOf problem bound u mark = subst (IsMarkOf problem bound u) (sym same) two in (
        mark.owner,
        alike_by_lists problem mark.owner bound (probes_of problem mark.owner) (probes_are_all problem mark.owner) t u mark.outcomes one.owner others.owner one.answers others.answers,
      )),
  λ alike.
      (let types : other.owner ≡ mark.owner = same_Some other.owner mark.owner (sym two.owner ∙ alike.1.right ∙ sym alike.1.left ∙ one.owner) in
      let is_alike = subst (λ type. IsAlike problem type bound t u) (same_Some alike.0 mark.owner (sym alike.1.left ∙ one.owner)) alike.1 in
      let answers = subst (λ type. AnswerProbes problem bound (probes_of problem type) u other.outcomes) types two.answers in
      ap₂ (λ type lists. record { owner = type; outcomes = lists }) (sym types)
      (equal_lists problem mark.owner bound (probes_of problem mark.owner) (probes_are_all problem mark.owner) t u mark.outcomes other.outcomes one.answers answers is_alike)),
)
