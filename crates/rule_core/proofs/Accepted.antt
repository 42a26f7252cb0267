-- A rule without a flow fault, atom by atom.
use Rattle.std.proofs.Common.{◌≡◌, ℕ, zero, suc, Bool, true, false, if◌then◌else◌, Option, Some, None, List, [], ◌∷◌, length, slice_get, option_and_then, is_some, refl, ap, subst, ◌∙◌}
use Rattle.std.specs.Option.{option_map_or}
use Rattle.std.proofs.lemmas.Option.{same_Some}
use Rattle.sig_core.specs.Signatures.{Declarations, kinds_of, input_slots, output_slots}
use Rattle.rule_core.specs.declared.rule.Atom.{Atom}
use Rattle.rule_core.specs.declared.rule.Rule.{Rule}
use Rattle.rule_core.specs.Flow.{existential_slots, fault_at, fault_from, fits, known_after, unknown_in}
use Rattle.rule_core.specs.Laws.{AcceptedFlows, Flows, Passes, known_at}
use Rattle.rule_core.proofs.Flowing.{fault_at_none, or_none}

module _ (sig : Declarations) (rule : Rule) where
  -- the first atom passes, and so do those after it
  first : (known more : List ℕ) (a : Atom) (atoms : List Atom) → fits sig rule known a ≡ true → known_after known a ≡ Some more → Flows sig rule more atoms → Flows sig rule known (a ∷ atoms)
  first known more a atoms fit e flows = record {
    last = flows.last;
    known_last = ap (option_and_then (λ m. known_at m atoms (length atoms))) e ∙ flows.known_last;
    passes = passes;
    outputs = flows.outputs;
    existentials = flows.existentials;
  }
    where
      passes : (k : ℕ) (b : Atom) → slice_get (a ∷ atoms) k ≡ Some b → Passes sig rule known (a ∷ atoms) k b
      passes zero b at =
          let same : a ≡ b = same_Some a b at in record {
            before = known;
            known_before = refl;
            fit = subst (λ c. fits sig rule known c ≡ true) same fit;
            uses = subst (λ c. is_some (known_after known c) ≡ true) same (ap is_some e);
          }
      passes (suc k) b at =
          let p = flows.passes k b at in record {
            before = p.before;
            known_before = ap (option_and_then (λ m. known_at m atoms k)) e ∙ p.known_before;
            fit = p.fit;
            uses = p.uses;
          }

  flows_from : (known : List ℕ) (n : ℕ) (atoms : List Atom) → fault_from sig rule known n atoms ≡ None → Flows sig rule known atoms
  flows_from known n [] e =
      let outs = unknown_in known (output_slots (kinds_of sig rule.relation)) in
      let more = unknown_in known (existential_slots (kinds_of sig rule.relation) rule.more) in
      let both = or_none (fault_at 2 n outs) (fault_at 3 n more) e in record {
        last = known;
        known_last = refl;
        passes = λ k a at. absurd (cc);
        outputs = fault_at_none 2 n outs both.0;
        existentials = fault_at_none 3 n more both.1;
      }
  flows_from known n (a ∷ atoms) e = by (fits sig rule known a) (known_after known a) refl refl (λ more f. flows_from more (suc n) atoms f) e
    where
      by : (b : Bool) (o : Option (List ℕ)) → fits sig rule known a ≡ b → known_after known a ≡ o → ((more : List ℕ) → fault_from sig rule more (suc n) atoms ≡ None → Flows sig rule more atoms)
          → (if b then option_map_or (λ more. fault_from sig rule more (suc n) atoms) o (fault_at 1 n (Some 0)) else fault_at 4 n (Some 0)) ≡ None → Flows sig rule known (a ∷ atoms)
      by true (Some more) fit is rest f = first known more a atoms fit is (rest more f)
      by true None fit is rest f = absurd (cc)
      by false o fit is rest f = absurd (cc)

pub accepted_flows : AcceptedFlows
accepted_flows sig rule e = flows_from sig rule (input_slots (kinds_of sig rule.relation)) 0 rule.atoms e
