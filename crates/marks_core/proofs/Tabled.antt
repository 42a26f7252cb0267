-- The tables that a lens of marks keeps.
use Rattle.std.proofs.Common.{◌≡◌, ℕ, zero, suc, ◌+◌, Bool, true, false, ◌&&◌, cond, if◌then◌else◌, Some, List, [], ◌∷◌, ◌++◌, map, filter, flat_map, length, refl, sym, ap, ap₂, ◌∙◌, arith, append-nil, append_assoc}
use Rattle.std.specs.List.{range_with_len}
use Rattle.std.proofs.lemmas.List.Elements.{filter-append}
use Rattle.std.proofs.lemmas.List.FromFn.{map-range_with_len_more}
use Rattle.sig_core.specs.declared.value.Value.{Value}
use Rattle.sig_core.specs.declared.ids.TypeId.{TypeId}
use Rattle.sig_core.specs.declared.ids.RelId.{RelId}
use Rattle.sig_core.specs.Lists.{numbers_from}
use Rattle.sig_core.specs.Signatures.{Declarations, kinds_of, term_type}
use Rattle.rule_core.specs.Flow.{same_type}
use Rattle.problem_core.specs.declared.parts.Constraint.{Constraint}
use Rattle.problem_core.specs.Problems.{Parts}
use Rattle.eval_core.specs.Alikeness.{example_of}
use Rattle.eval_core.specs.Marks.{Probe, fits_probe, probes_of}
use Rattle.marks_core.specs.Tables.{has_inputs, probe_with, probes_in, probes_at}

-- the numbers of the items of a list
pub numbers_in_range : {X : Type 0} (n : ℕ) (xs : List X) → numbers_from n xs ≡ range_with_len n (length xs)
numbers_in_range n [] = refl
numbers_in_range n (x ∷ xs) =
    let next : suc n ≡ n + 1 = omega arith in
    ap (λ ns. n ∷ ns) (numbers_in_range (suc n) xs ∙ ap (λ m. range_with_len m (length xs)) next)

-- a list of the values at all numbers below n, with one value more
pub one_more : {X : Type 0} (f : ℕ → X) (xs ys : List X) (n : ℕ) (x : X) → xs ≡ map f (range_with_len 0 n) → x ≡ f n → ys ≡ xs ++ x ∷ [] → ys ≡ map f (range_with_len 0 (n + 1))
one_more f xs ys n x made is pushed = pushed ∙ ap₂ (λ zs z. zs ++ z ∷ []) made is ∙ sym (map-range_with_len_more f 0 n n (omega arith))

flat_map-range : {X : Type 0} (f : ℕ → List X) (a n j : ℕ) → a + n ≡ j → flat_map f (range_with_len a (n + 1)) ≡ flat_map f (range_with_len a n) ++ f j
flat_map-range f a zero j e =
    let same : a ≡ j = omega arith in
    append-nil (f a) ∙ ap f same
flat_map-range f a (suc n) j e =
    let longer : suc n + 1 ≡ suc (n + 1) = omega arith in
    ap (λ m. flat_map f (range_with_len a m)) longer ∙ ap (λ xs. f a ++ xs) (flat_map-range f (a + 1) n j (omega arith)) ∙ sym (append_assoc (f a) (flat_map f (range_with_len (a + 1) n)) (f j))

-- the same of lists that are appended
pub one_more_list : {X : Type 0} (f : ℕ → List X) (xs ys : List X) (n : ℕ) → xs ≡ flat_map f (range_with_len 0 n) → ys ≡ xs ++ f n → ys ≡ flat_map f (range_with_len 0 (n + 1))
one_more_list f xs ys n made pushed = pushed ∙ ap (λ zs. zs ++ f n) made ∙ sym (flat_map-range f 0 n n (omega arith))

module _ (p : Probe → Bool) (h : List Value → Bool) (f : Constraint → List Value) (r : RelId) where
  abbrev probe_of : Constraint → Probe
  probe_of c = probe_with r (f c)

  put_both : (b : Bool) (inputs : List Value) (probes : List Probe) (lists : List (List Value)) → probes ≡ map (probe_with r) lists
      → cond b (probe_with r inputs ∷ probes) probes ≡ map (probe_with r) (cond b (inputs ∷ lists) lists)
  put_both true inputs probes lists e = ap (λ ps. probe_with r inputs ∷ ps) e
  put_both false inputs probes lists e = e

  all_tested : ((c : Constraint) → p (probe_of c) ≡ h (f c)) → (cs : List Constraint) → filter p (map probe_of cs) ≡ map (probe_with r) (filter h (map f cs))
  all_tested same [] = refl
  all_tested same (c ∷ cs) =
      ap (λ b. cond b (probe_of c ∷ filter p (map probe_of cs)) (filter p (map probe_of cs))) (same c)
      ∙ put_both (h (f c)) (f c) (filter p (map probe_of cs)) (filter h (map f cs)) (all_tested same cs)

  none_passes : ((c : Constraint) → p (probe_of c) ≡ false) → (cs : List Constraint) → filter p (map probe_of cs) ≡ []
  none_passes same [] = refl
  none_passes same (c ∷ cs) = ap (λ b. cond b (probe_of c ∷ filter p (map probe_of cs)) (filter p (map probe_of cs))) (same c) ∙ none_passes same cs

  pub tested : (b : Bool) → ((c : Constraint) → p (probe_of c) ≡ b && h (f c)) → (cs : List Constraint) → filter p (map probe_of cs) ≡ if b then map (probe_with r) (filter h (map f cs)) else []
  tested true same cs = all_tested same cs
  tested false same cs = none_passes same cs

module _ (sig : Declarations) (type : TypeId) (constraints : List Constraint) where
  abbrev pub of_relation : ℕ → List Probe
  of_relation n = map (λ example. record { relation = record { 0 = n }; inputs = example_of sig example }) constraints

  one_relation : (n : ℕ) → filter (fits_probe sig type) (of_relation n) ≡ probes_in sig type (map (example_of sig) constraints) n
  one_relation n =
      let r : RelId = record { 0 = n } in
      tested (fits_probe sig type) (has_inputs (kinds_of sig r)) (example_of sig) r (same_type (term_type (kinds_of sig r)) (Some type)) (λ c. refl) constraints

  all_relations : (ns : List ℕ) → filter (fits_probe sig type) (flat_map of_relation ns) ≡ flat_map (probes_in sig type (map (example_of sig) constraints)) ns
  all_relations [] = refl
  all_relations (n ∷ ns) =
      filter-append (fits_probe sig type) (of_relation n) (flat_map of_relation ns) ∙ ap₂ (λ ps qs. ps ++ qs) (one_relation n) (all_relations ns)

  -- what is found relation by relation are the probes of the type
  pub probes_found : probes_at sig type (map (example_of sig) constraints) ≡ filter (fits_probe sig type) (flat_map of_relation (numbers_from 0 sig.relations))
  probes_found =
      ap (flat_map (probes_in sig type (map (example_of sig) constraints))) (sym (numbers_in_range 0 sig.relations)) ∙ sym (all_relations (numbers_from 0 sig.relations))

pub probes_of_type : (problem : Parts) (type : TypeId) → probes_at problem.signature type (map (example_of problem.signature) problem.constraints) ≡ probes_of problem type
probes_of_type problem type = probes_found problem.signature type problem.constraints
