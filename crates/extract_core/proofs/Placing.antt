-- The steps of facts are found by a table.
use Rattle.std.proofs.Common.{◌≡◌, ◌+◌, ℕ, Bool, true, false, ◌&&◌, nat_eq, if◌then◌else◌, Option, Some, None, option_map, List, [], ◌∷◌, ◌++◌, length, take, slice_get, All, Result, Ok, Err, OnOk, refl, sym, ap, ap₂, ◌∙◌, subst, inl, inr, eqb-true, eq-eqb}
use Rattle.std.specs.Bool.{Decides}
use Rattle.std.specs.Cmp.Lexicographic.{pointwise}
use Rattle.std.proofs.lemmas.List.{take_more}
use Rattle.std.proofs.lemmas.List.Elements.{All-contains}
use Rattle.std.proofs.lemmas.Option.{same_Some, none-some, slice_get_within, get_or_from_slice_get, slice_get-map}
use Rattle.std.proofs.lemmas.Slice.Eq.{slice_eq-Decides}
use Rattle.sig_core.specs.declared.ids.RelId.{RelId}
use Rattle.sig_core.specs.declared.value.Value.{Value}
use Rattle.sig_core.specs.contracts.value.ValuePartialEq.TheImpl.{ghosts as value_equality}
use Rattle.sig_core.specs.Signatures.{Declarations}
use Rattle.term_core.specs.declared.ids.TermId.{TermId}
use Rattle.term_core.specs.declared.tree.Tree.{Tree}
use Rattle.term_core.specs.Banks.{EachOnce, IsLive}
use Rattle.rule_core.specs.Instances.{param_values}
use Rattle.rule_core.proofs.Determined.{and_both, mapped_some}
use Rattle.deriv_core.specs.declared.parts.Fact.{Fact}
use Rattle.deriv_core.specs.declared.parts.Step.{Step}
use Rattle.deriv_core.specs.contracts.parts.FactPartialEq.TheImpl.{ghosts as fact_equality}
use Rattle.deriv_core.specs.Facts.{tree_fact}
use Rattle.deriv_core.specs.Steps.{step_fact, tree_step, tree_steps}
use Rattle.extract_core.specs.Additions.{HasFact}
use Rattle.extract_core.specs.Lookups.{LacksFact}
use Rattle.extract_core.specs.Places.{ArePlaces, IsPut, fact_of}
use Rattle.extract_core.proofs.Listing.{get_front, get_last, push_cases}
use Rattle.extract_core.proofs.ValueEq.{value_eq-Decides}

abbrev fact_with : RelId → TermId → List Value → Fact
fact_with r n vs = record { relation = r; node = n; args = vs }

made : (r s : RelId) (m n : TermId) (vs ws : List Value) → r.0 ≡ s.0 → m.0 ≡ n.0 → vs ≡ ws → fact_with r m vs ≡ fact_with s n ws
made r s m n vs ws p q e = λ i. record { relation = record { 0 = p i }; node = record { 0 = q i }; args = e i }

args_Decide : (vs ws : List Value) → Decides (pointwise value_equality.eq vs ws) (vs ≡ ws)
args_Decide vs ws = slice_eq-Decides value_eq-Decides vs ws (pointwise value_equality.eq vs ws) refl

-- the derived `==` of facts decides whether they are the same
pub same_fact : (f g : Fact) → fact_equality.eq f g ≡ true → f ≡ g
same_fact f g h =
    let p = and_both (nat_eq f.relation.0 g.relation.0) (nat_eq f.node.0 g.node.0 && pointwise value_equality.eq f.args g.args) h in
    let q = and_both (nat_eq f.node.0 g.node.0) (pointwise value_equality.eq f.args g.args) p.1 in
    made f.relation g.relation f.node g.node f.args g.args (eqb-true f.relation.0 g.relation.0 p.0) (eqb-true f.node.0 g.node.0 q.0) ((args_Decide f.args g.args).0 q.1)

all_three : (a b c : Bool) → a ≡ true → b ≡ true → c ≡ true → a && (b && c) ≡ true
all_three a b c p q r = ap₂ (λ x y. x && y) p (ap₂ (λ x y. x && y) q r)

pub fact_itself : (f : Fact) → fact_equality.eq f f ≡ true
fact_itself f =
    all_three (nat_eq f.relation.0 f.relation.0) (nat_eq f.node.0 f.node.0) (pointwise value_equality.eq f.args f.args)
    (eq-eqb f.relation.0 f.relation.0 refl) (eq-eqb f.node.0 f.node.0 refl) ((args_Decide f.args f.args).1 refl)

-- no step, and no fact
pub none_placed : (sig : Declarations) (number_of : Fact → Option ℕ) → ((fact : Fact) → number_of fact ≡ None) → ArePlaces sig [] number_of
none_placed sig number_of none = record {
  sound = λ fact n e. absurd (none-some n (sym (none fact) ∙ e));
  complete = λ n step e. absurd (none-some step e);
}

-- a step more
module _ (sig : Declarations) (steps : List Step) (step : Step) (old new : Fact → Option ℕ) (is_put : IsPut old (fact_of sig step) (length steps) new) (places : ArePlaces sig steps old) where
  sound_at : (fact : Fact) (n : ℕ) (b : Bool) → fact_equality.eq (fact_of sig step) fact ≡ b → (if b then Some (length steps) else old fact) ≡ Some n
      → option_map (fact_of sig) (slice_get (steps ++ step ∷ []) n) ≡ Some fact
  sound_at fact n true same e =
      ap (λ k. option_map (fact_of sig) (slice_get (steps ++ step ∷ []) k)) (sym (same_Some (length steps) n e))
      ∙ ap (option_map (fact_of sig)) (get_last steps step) ∙ ap Some (same_fact (fact_of sig step) fact same)
  sound_at fact n false other e =
      let m = mapped_some (fact_of sig) (slice_get steps n) fact (places.sound fact n e) in
      ap (option_map (fact_of sig)) (get_front steps (step ∷ []) n m.0 m.1) ∙ ap Some m.2

  there_at : (fact : Fact) (b : Bool) → fact_equality.eq (fact_of sig step) fact ≡ b → (b ≡ false → ¬ (old fact ≡ None)) → ¬ ((if b then Some (length steps) else old fact) ≡ None)
  there_at fact true same known e = none-some (length steps) (sym e)
  there_at fact false other known e = known refl e

  complete_at : (n : ℕ) (s : Step) → slice_get (steps ++ step ∷ []) n ≡ Some s → ¬ (new (fact_of sig s) ≡ None)
  complete_at n s at e =
      let f = fact_of sig s in
      there_at f (fact_equality.eq (fact_of sig step) f) refl
      (λ other. elim (push_cases steps step n s at) [
        | inl c ↦ places.complete n s c.1
        | inr c ↦ (let same : fact_equality.eq (fact_of sig step) f ≡ true = subst (λ (x : Step). fact_equality.eq (fact_of sig step) (fact_of sig x) ≡ true) c.1 (fact_itself (fact_of sig step)) in
            let bad : true ≡ false = sym same ∙ other in
            cc)
      ]) (sym (is_put f) ∙ e)

  pub put_placed : ArePlaces sig (steps ++ step ∷ []) new
  put_placed = record {
    sound = λ fact n e. sound_at fact n (fact_equality.eq (fact_of sig step) fact) refl (sym (is_put fact) ∙ e);
    complete = complete_at;
  }

-- the first steps with one more
pub take_push : {X : Type 0} (xs : List X) (k : ℕ) (x : X) → slice_get xs k ≡ Some x → take (k + 1) xs ≡ take k xs ++ x ∷ []
take_push xs k x e = take_more xs k x (slice_get_within xs k x e) ∙ ap (λ y. take k xs ++ y ∷ []) (get_or_from_slice_get xs k x x e)

-- what stands under a fact
module _ (sig : Declarations) (bank : List Tree) (once : EachOnce bank) (steps : List Step) (live : All (λ (step : Step). IsLive bank step.node) steps)
    (number_of : Fact → Option ℕ) (places : ArePlaces sig steps number_of) (fact : Fact) (fact_live : IsLive bank fact.node) where
  pub found_has : (n : ℕ) → Some n ≡ number_of fact → HasFact sig (tree_steps bank steps) n (tree_fact bank fact)
  found_has n e =
      let m = mapped_some (fact_of sig) (slice_get steps n) fact (places.sound fact n (sym e)) in
      ap (option_map (step_fact sig)) (slice_get-map (tree_step bank) steps n ∙ ap (option_map (tree_step bank)) m.1) ∙ ap (λ f. Some (tree_fact bank f)) m.2

  pub none_lacks : None ≡ number_of fact → LacksFact sig (tree_steps bank steps) (tree_fact bank fact)
  none_lacks none k has =
      let t = mapped_some (step_fact sig) (slice_get (tree_steps bank steps) k) (tree_fact bank fact) has in
      let s = mapped_some (tree_step bank) (slice_get steps k) t.0 (sym (slice_get-map (tree_step bank) steps k) ∙ t.1) in
      let step = s.0 in
      let whole : step_fact sig (tree_step bank step) ≡ tree_fact bank fact = ap (step_fact sig) s.2 ∙ t.2 in
      let step_live : IsLive bank step.node = All-contains (λ (x : Step). IsLive bank x.node) steps step live (k, slice_get_within steps k step s.1, get_or_from_slice_get steps k step step s.1) in
      let node : step.node ≡ fact.node = once step.node fact.node step_live fact_live (ap (λ f. f.term) whole) in
      let same : fact_of sig step ≡ fact = made step.relation fact.relation step.node fact.node (param_values sig step.relation step.values) fact.args (ap (λ f. f.relation.0) whole) (ap (λ n. n.0) node) (ap (λ f. f.args) whole) in
      places.complete k step s.1 (ap number_of same ∙ sym none)

-- with the step of a push
pub pushed_placed : {T E : Type 0} (r : Result T E) (sig : Declarations) (mid new : List Step) (step : Step) (number_of : Fact → Option ℕ)
    → ArePlaces sig (mid ++ step ∷ []) number_of → OnOk r (new ≡ mid ++ step ∷ []) → OnOk r (ArePlaces sig new number_of)
pushed_placed (Ok x) sig mid new step number_of placed e = subst (λ ss. ArePlaces sig ss number_of) (sym e) placed
pushed_placed (Err x) sig mid new step number_of placed e = tt
