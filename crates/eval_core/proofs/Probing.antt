-- The probes of a type.
use Rattle.std.proofs.Common.{◌≡◌, ◌<◌, ◌+◌, inl, inr, ℕ, zero, suc, Bool, true, false, ◌&&◌, cond, Some, List, [], ◌∷◌, map, filter, length, slice_index_or, All, Contains, refl, sym, ap, ap₂, ◌∙◌, subst, arith, eq-eqb}
use Rattle.std.specs.List.{flat_map}
use lib.Pointwise.{pointwise}
use Rattle.std.proofs.lemmas.Bool.{and_parts, cases_lt}
use Rattle.std.proofs.lemmas.List.Elements.{All-nil, All-append, All-map, All-filter, filter_passes, Contains-get_or, Contains-append_left, Contains-append_right}
use Rattle.std.proofs.lemmas.Option.{none-some, slice_get_past}
use Rattle.sig_core.specs.declared.value.Value.{Value}
use Rattle.sig_core.specs.declared.value.Sort.{Sort}
use Rattle.sig_core.specs.declared.value.Sort.TheVariants as sort
use Rattle.sig_core.specs.declared.ids.TypeId.{TypeId}
use Rattle.sig_core.specs.Lists.{numbers_from}
use Rattle.sig_core.specs.Values.{sort_of, same_sort}
use Rattle.sig_core.specs.Signatures.{kinds_of, params_in, plain_sorts, inputs_of, term_type}
use Rattle.rule_core.specs.Flow.{same_type}
use Rattle.problem_core.specs.declared.parts.Constraint.{Constraint}
use Rattle.problem_core.specs.Problems.{Parts}
use Rattle.eval_core.specs.Marks.{Probe, IsProbe, AreProbes, fits_probe, all_probes, probes_of}
use Rattle.eval_core.proofs.Handed.{same_type_is}
use Rattle.eval_core.proofs.Inputs.{same_sort_is}
use Rattle.eval_core.specs.Alikeness.{example_of}

pub Contains-map : {X Y : Type 0} (f : X → Y) (xs : List X) (y : Y) → Contains (map f xs) y → (x : X) × Contains xs x × (f x ≡ y)
Contains-map f [] y (k, l, e) = absurd (omega arith)
Contains-map f (x ∷ xs) y (zero, l, e) = (x, (0, omega arith, refl), e)
Contains-map f (x ∷ xs) y (suc k, l, e) = let p = Contains-map f xs y (k, omega arith, e) in (p.0, (suc p.1.0, (let h = p.1.1 in omega arith), p.1.2), p.2)

pub Contains-mapped : {X Y : Type 0} (f : X → Y) (xs : List X) (x : X) → Contains xs x → Contains (map f xs) (f x)
Contains-mapped f [] x (k, l, e) = absurd (omega arith)
Contains-mapped f (y ∷ xs) x (zero, l, e) = (0, omega arith, ap f e)
Contains-mapped f (y ∷ xs) x (suc k, l, e) = let p = Contains-mapped f xs x (k, omega arith, e) in (suc p.0, (let h = p.1 in omega arith), p.2)

Contains-filter : {X : Type 0} (p : X → Bool) (xs : List X) (x : X) → Contains xs x → p x ≡ true → Contains (filter p xs) x
Contains-filter p [] x (k, l, e) h = absurd (omega arith)
Contains-filter p (y ∷ xs) x (zero, l, e) h = by (p y) (ap p e ∙ h)
  where
    by : (b : Bool) → b ≡ true → Contains (cond b (y ∷ filter p xs) (filter p xs)) x
    by true q = (0, omega arith, e)
    by false q = absurd cc
Contains-filter p (y ∷ xs) x (suc k, l, e) h = by (p y) (Contains-filter p xs x (k, omega arith, e) h)
  where
    by : (b : Bool) → Contains (filter p xs) x → Contains (cond b (y ∷ filter p xs) (filter p xs)) x
    by true c = (suc c.0, (let m = c.1 in omega arith), c.2)
    by false c = c

Contains-flat_map : {X Y : Type 0} (f : X → List Y) (xs : List X) (x : X) (y : Y) → Contains xs x → Contains (f x) y → Contains (flat_map f xs) y
Contains-flat_map f [] x y (k, l, e) c = absurd (omega arith)
Contains-flat_map f (a ∷ xs) x y (zero, l, e) c = Contains-append_left (f a) (flat_map f xs) y (subst (λ z. Contains (f z) y) (sym e) c)
Contains-flat_map f (a ∷ xs) x y (suc k, l, e) c = Contains-append_right (f a) (flat_map f xs) y (Contains-flat_map f xs x y (k, omega arith, e) c)

-- a number is counted where the list is longer
counted : {X : Type 0} (n i : ℕ) (xs : List X) → i < length xs → Contains (numbers_from n xs) (n + i)
counted n i [] l = absurd (omega arith)
counted n zero (x ∷ xs) l = (0, omega arith, omega arith)
counted n (suc i) (x ∷ xs) l =
    let e : n + suc i ≡ suc n + i = omega arith in
    let c = counted (suc n) i xs (omega arith) in
    subst (Contains (n ∷ numbers_from (suc n) xs)) (sym e) (suc c.0, (let h = c.1 in omega arith), c.2)

-- the sorts of the inputs are the wanted ones
sorts_by_test : (vs : List Value) (ss : List Sort) → pointwise (λ v s. same_sort (sort_of v) s) vs ss ≡ true → map sort_of vs ≡ ss
sorts_by_test [] [] h = refl
sorts_by_test [] (s ∷ ss) h = absurd cc
sorts_by_test (v ∷ vs) [] h = absurd cc
sorts_by_test (v ∷ vs) (s ∷ ss) h =
    let p = and_parts (same_sort (sort_of v) s) (pointwise (λ v s. same_sort (sort_of v) s) vs ss) h in
    ap₂ (λ x xs. x ∷ xs) (same_sort_is (sort_of v) s p.0) (sorts_by_test vs ss p.1)

same_sort_itself : (s : Sort) → same_sort s s ≡ true
same_sort_itself sort.Int = refl
same_sort_itself sort.Bool = refl

test_by_sorts : (vs : List Value) (ss : List Sort) → map sort_of vs ≡ ss → pointwise (λ v s. same_sort (sort_of v) s) vs ss ≡ true
test_by_sorts [] [] e = refl
test_by_sorts [] (s ∷ ss) e = absurd cc
test_by_sorts (v ∷ vs) [] e = absurd cc
test_by_sorts (v ∷ vs) (s ∷ ss) e =
    let head : sort_of v ≡ s = cc in
    let tail : map sort_of vs ≡ ss = cc in
    ap₂ (λ a b. a && b) (ap (λ z. same_sort z s) head ∙ same_sort_itself s) (test_by_sorts vs ss tail)

All-flat_map : {X Y : Type 0} (P : Y → Type 0) (f : X → List Y) (xs : List X) → ((x : X) → All P (f x)) → All P (flat_map f xs)
All-flat_map P f [] each = All-nil P
All-flat_map P f (x ∷ xs) each = All-append P (f x) (flat_map f xs) (each x) (All-flat_map P f xs each)

module _ (problem : Parts) (type : TypeId) where
  abbrev HasExample : Probe → Type 0
  HasExample probe = Contains (map (example_of problem.signature) problem.constraints) probe.inputs

  abbrev probe_at : ℕ → Constraint → Probe
  probe_at n example = record { relation = record { 0 = n }; inputs = example_of problem.signature example }

  all_have_examples : All HasExample (all_probes problem)
  all_have_examples = All-flat_map HasExample (λ n. map (probe_at n) problem.constraints) (numbers_from 0 problem.signature.relations) (λ n.
      All-map HasExample (probe_at n) problem.constraints (λ k d l.
      Contains-mapped (example_of problem.signature) problem.constraints (slice_index_or problem.constraints k d) (Contains-get_or problem.constraints k d l)))

  by_test : (probe : Probe) → HasExample probe → fits_probe problem.signature type probe ≡ true → IsProbe problem type probe
  by_test probe example h =
      let kinds = kinds_of problem.signature probe.relation in
      let wanted = inputs_of kinds (plain_sorts kinds) in
      let p = and_parts (same_type (term_type kinds) (Some type)) (pointwise (λ v s. same_sort (sort_of v) s) probe.inputs wanted) h in
      let typed = same_type_is (term_type kinds) (Some type) p.0 in
      record { typed = typed.1 ∙ sym typed.2; example = example; sorted = sorts_by_test probe.inputs wanted p.1 }

  probes_sound : All (IsProbe problem type) (probes_of problem type)
  probes_sound = λ k d l.
      (let test = fits_probe problem.signature type in
      by_test (slice_index_or (probes_of problem type) k d) (All-filter test HasExample (all_probes problem) all_have_examples k d l) (filter_passes test (all_probes problem) k d l))

  typed_below : (n : ℕ) → term_type (kinds_of problem.signature (record { 0 = n })) ≡ Some type → n < length problem.signature.relations
  typed_below n typed = elim (cases_lt n (length problem.signature.relations)) [
    | inl below ↦ below
    | inr past ↦ absurd (none-some type (sym (ap (λ o. term_type (map (λ p. p.kind) (params_in o))) (slice_get_past problem.signature.relations n past)) ∙ typed))
  ]

  probes_complete : (probe : Probe) → IsProbe problem type probe → Contains (probes_of problem type) probe
  probes_complete probe is =
      let sig = problem.signature in
      let kinds = kinds_of sig probe.relation in
      let wanted = inputs_of kinds (plain_sorts kinds) in
      let n = probe.relation.0 in
      let typed : same_type (term_type kinds) (Some type) ≡ true = ap (λ o. same_type o (Some type)) is.typed ∙ eq-eqb type.0 type.0 refl in
      let found = Contains-map (example_of sig) problem.constraints probe.inputs is.example in
      let here = Contains-mapped (probe_at n) problem.constraints found.0 found.1 in
      let is_probe : probe_at n found.0 ≡ probe = ap (λ inputs. record { relation = probe.relation; inputs = inputs }) found.2 in
      let number : Contains (numbers_from 0 sig.relations) n = (let e : 0 + n ≡ n = omega arith in subst (Contains (numbers_from 0 sig.relations)) e (counted 0 n sig.relations (typed_below n is.typed))) in
      Contains-filter (fits_probe sig type) (all_probes problem) probe
      (Contains-flat_map (λ m. map (probe_at m) problem.constraints) (numbers_from 0 sig.relations) n probe number (subst (Contains (map (probe_at n) problem.constraints)) is_probe here))
      (ap₂ (λ a b. a && b) typed (test_by_sorts probe.inputs wanted is.sorted))

  pub probes_are_all : AreProbes problem type (probes_of problem type)
  probes_are_all = record { sound = probes_sound; complete = probes_complete }
