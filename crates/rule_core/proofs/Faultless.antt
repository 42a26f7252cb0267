-- A rule whose atoms pass and that knows each slot in the end has no flow fault.
use Rattle.std.proofs.Common.{◌≡◌, ℕ, suc, true, if◌then◌else◌, Option, Some, None, List, [], ◌∷◌, length, option_and_then, is_some, refl, sym, ap, ap₂, subst, ◌∙◌}
use Rattle.std.specs.Option.{option_map_or, option_or}
use Rattle.std.proofs.lemmas.Option.{same_Some}
use Rattle.sig_core.specs.Signatures.{Declarations, kinds_of, input_slots, output_slots}
use Rattle.rule_core.specs.declared.rule.Atom.{Atom}
use Rattle.rule_core.specs.declared.rule.Rule.{Rule}
use Rattle.rule_core.specs.Flow.{existential_slots, fault_at, fault_from, fits, known_after, unknown_in}
use Rattle.rule_core.specs.Laws.{FlowingAccepted, Flows, Passes, known_at}

module _ (sig : Declarations) (rule : Rule) where
  -- the atoms after the first pass with what it leaves known
  rest : (known more : List ℕ) (a : Atom) (atoms : List Atom) → known_after known a ≡ Some more → Flows sig rule known (a ∷ atoms) → Flows sig rule more atoms
  rest known more a atoms e flows = record {
    last = flows.last;
    known_last = sym (ap (option_and_then (λ m. known_at m atoms (length atoms))) e) ∙ flows.known_last;
    passes = λ k b at. (let p = flows.passes (suc k) b at in record {
      before = p.before;
      known_before = sym (ap (option_and_then (λ m. known_at m atoms k)) e) ∙ p.known_before;
      fit = p.fit;
      uses = p.uses;
    });
    outputs = flows.outputs;
    existentials = flows.existentials;
  }

  -- the first atom fits, and uses slots that are known at first
  fits_first : (known : List ℕ) (a : Atom) (atoms : List Atom) → Passes sig rule known (a ∷ atoms) 0 a → fits sig rule known a ≡ true
  fits_first known a atoms p = subst (λ m. fits sig rule m a ≡ true) (sym (same_Some known p.before p.known_before)) p.fit

  uses_first : (known : List ℕ) (a : Atom) (atoms : List Atom) → Passes sig rule known (a ∷ atoms) 0 a → is_some (known_after known a) ≡ true
  uses_first known a atoms p = subst (λ m. is_some (known_after m a) ≡ true) (sym (same_Some known p.before p.known_before)) p.uses

  none_from : (known : List ℕ) (n : ℕ) (atoms : List Atom) → Flows sig rule known atoms → fault_from sig rule known n atoms ≡ None
  none_from known n [] flows =
      let ks = kinds_of sig rule.relation in
      let end : flows.last ≡ known = sym (same_Some known flows.last flows.known_last) in
      let outputs = subst (λ m. unknown_in m (output_slots ks) ≡ None) end flows.outputs in
      let more = subst (λ m. unknown_in m (existential_slots ks rule.more) ≡ None) end flows.existentials in
      ap₂ (λ o m. option_or (fault_at 2 n o) (fault_at 3 n m)) outputs more
  none_from known n (a ∷ atoms) flows =
      let p = flows.passes 0 a refl in
      ap (λ b. if b then option_map_or (λ more. fault_from sig rule more (suc n) atoms) (known_after known a) (fault_at 1 n (Some 0)) else fault_at 4 n (Some 0)) (fits_first known a atoms p)
      ∙ by (known_after known a) refl (uses_first known a atoms p) (λ more f. none_from more (suc n) atoms f)
    where
      by : (o : Option (List ℕ)) → known_after known a ≡ o → is_some o ≡ true → ((more : List ℕ) → Flows sig rule more atoms → fault_from sig rule more (suc n) atoms ≡ None)
          → option_map_or (λ more. fault_from sig rule more (suc n) atoms) o (fault_at 1 n (Some 0)) ≡ None
      by (Some more) is some later = later more (rest known more a atoms is flows)
      by None is some later = absurd (cc)

pub flowing_accepted : FlowingAccepted
flowing_accepted sig rule flows = none_from sig rule (input_slots (kinds_of sig rule.relation)) 0 rule.atoms flows
