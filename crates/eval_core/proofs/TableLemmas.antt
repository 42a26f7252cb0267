-- The entries of a table.
use Rattle.std.proofs.Common.{◌≡◌, ◌≤◌, ℕ, suc, nat_le, nat_eq, Bool, true, false, ◌&&◌, ◌⊎◌, cond, inl, inr, Some, List, [], ◌∷◌, map, filter, All, Contains, refl, sym, ap, ◌∙◌, subst, arith, eqb-true}
use Rattle.std.specs.Map.{lookup}
use Rattle.std.specs.Ordering.{is_eq}
use Rattle.std.specs.Cmp.Lexicographic.{pointwise}
use Rattle.std.specs.declared.cmp.Ordering.{Ordering}
use Rattle.std.specs.declared.cmp.Ordering.TheVariants.{Less, Equal, Greater}
use Rattle.std.proofs.lemmas.List.Elements.{All-nil, All-cons, All-weaker, All-contains, All-contains_itself}
use Rattle.std.proofs.lemmas.Option.{same_Some, none-some}
use Rattle.indexmap.specs.IndexMap.{insert_entry}
use Rattle.sig_core.specs.declared.ids.RelId.{RelId}
use Rattle.sig_core.specs.declared.value.Value.{Value}
use Rattle.sig_core.specs.contracts.value.ValuePartialEq.TheImpl.{ghosts as value_equality}
use Rattle.sig_core.specs.Signatures.{Declarations}
use Rattle.term_core.specs.declared.ids.TermId.{TermId}
use Rattle.term_core.specs.declared.tree.Tree.{Tree}
use Rattle.term_core.specs.Banks.{IsLive, tree_of}
use Rattle.rule_core.specs.declared.rule.Rule.{Rule}
use Rattle.rule_core.proofs.Determined.{and_both}
use Rattle.eval_core.specs.declared.outcome.Outcome.{Outcome}
use Rattle.eval_core.specs.declared.table.Key.{Key}
use Rattle.eval_core.specs.declared.table.Kept.{Kept}
use Rattle.eval_core.specs.contracts.table.KeyPartialEq.TheImpl.{ghosts as key_equality}
use Rattle.eval_core.specs.Evaluations.{Entry, IsAccepted, IsTrueOf, AreTrueOf}
use Rattle.eval_core.specs.Merging.{outputs_cmp}
use Rattle.eval_core.specs.Outcomes.{AreInputs, AreOutcomes}
use Rattle.eval_core.specs.Runs.{outcomes_at}
use Rattle.eval_core.specs.Tables.{entry_of, AreOfOne, IsWith}
use Rattle.eval_core.proofs.OutcomeLaws.{one_outcomes, cut_outcomes}
use Rattle.eval_core.proofs.Orders.{same_outputs, outputs_equal}
use Rattle.eval_core.proofs.Rightness.{are_right}

equal_of : (o : Ordering) → is_eq o ≡ true → o ≡ Equal
equal_of Less h = absurd cc
equal_of Equal h = refl
equal_of Greater h = absurd cc

same_inputs : (xs ys : List Value) → pointwise value_equality.eq xs ys ≡ true → xs ≡ ys
same_inputs xs ys h = outputs_equal xs ys (equal_of (outputs_cmp xs ys) (sym (same_outputs xs ys) ∙ h))

pub key_same : (k l : Key) → key_equality.eq k l ≡ true → k ≡ l
key_same k l h =
    let p = and_both (nat_eq k.relation.0 l.relation.0) (nat_eq k.term.0 l.term.0 && pointwise value_equality.eq k.inputs l.inputs) h in
    let q = and_both (nat_eq k.term.0 l.term.0) (pointwise value_equality.eq k.inputs l.inputs) p.1 in
    let relation = eqb-true k.relation.0 l.relation.0 p.0 in
    let term = eqb-true k.term.0 l.term.0 q.0 in
    let inputs = same_inputs k.inputs l.inputs q.1 in
    λ i. record { relation = record { 0 = relation i }; term = record { 0 = term i }; inputs = inputs i }

later : (x y : Entry) (xs : List Entry) → Contains xs y → Contains (x ∷ xs) y
later x y xs c = (suc c.0, let l = c.1 in omega arith, c.2)

-- what a look-up finds is an entry
pub looked_up : (k : Key) (v : Kept) (es : List (Key × Kept)) → lookup (key_equality.eq k) es ≡ Some v → Contains (map entry_of es) (entry_of (k, v))
looked_up k v [] e = absurd (none-some v e)
looked_up k v (x ∷ es) e = by (key_equality.eq k x.0) refl e (looked_up k v es)
  where
    by : (b : Bool) → key_equality.eq k x.0 ≡ b → cond b (Some x.1) (lookup (key_equality.eq k) es) ≡ Some v → (lookup (key_equality.eq k) es ≡ Some v → Contains (map entry_of es) (entry_of (k, v))) → Contains (map entry_of (x ∷ es)) (entry_of (k, v))
    by true h f more = (0, omega arith, ap (λ l. entry_of (l, x.1)) (sym (key_same k x.0 h)) ∙ ap (λ w. entry_of (k, w)) (same_Some x.1 v f))
    by false h f more = later (entry_of x) (entry_of (k, v)) (map entry_of es) (more f)

-- what an insertion leaves are entries of before, and the new one
abbrev AreOldOr : List Entry → Entry → List Entry → Type 0
AreOldOr old entry new = All (λ e. Contains old e ⊎ (e ≡ entry)) new

inserted_others : (k : Key) (v : Kept) (es : List (Key × Kept)) → AreOldOr (map entry_of es) (entry_of (k, v)) (map entry_of (insert_entry key_equality.eq es k v))
inserted_others k v [] = All-cons (λ e. Contains [] e ⊎ (e ≡ entry_of (k, v))) (entry_of (k, v)) [] (inr refl) (All-nil (λ e. Contains [] e ⊎ (e ≡ entry_of (k, v))))
inserted_others k v (x ∷ es) = by (key_equality.eq k x.0) refl (inserted_others k v es)
  where
    by : (b : Bool) → key_equality.eq k x.0 ≡ b → AreOldOr (map entry_of es) (entry_of (k, v)) (map entry_of (insert_entry key_equality.eq es k v))
        → AreOldOr (map entry_of (x ∷ es)) (entry_of (k, v)) (map entry_of (cond b ((x.0, v) ∷ es) (x ∷ insert_entry key_equality.eq es k v)))
    by true h more =
        let Q : Entry → Type 0 = λ e. Contains (map entry_of (x ∷ es)) e ⊎ (e ≡ entry_of (k, v)) in
        All-cons Q (entry_of (x.0, v)) (map entry_of es) (inr (ap (λ l. entry_of (l, v)) (sym (key_same k x.0 h))))
        (All-weaker (Contains (map entry_of es)) Q (λ e c. inl (later (entry_of x) e (map entry_of es) c)) (map entry_of es) (All-contains_itself (map entry_of es)))
    by false h more =
        let Q : Entry → Type 0 = λ e. Contains (map entry_of (x ∷ es)) e ⊎ (e ≡ entry_of (k, v)) in
        All-cons Q (entry_of x) (map entry_of (insert_entry key_equality.eq es k v)) (inl (0, omega arith, refl))
        (All-weaker (λ e. Contains (map entry_of es) e ⊎ (e ≡ entry_of (k, v))) Q (λ e s. elim s [ inl c ↦ inl (later (entry_of x) e (map entry_of es) c) | inr f ↦ inr f ]) (map entry_of (insert_entry key_equality.eq es k v)) more)

-- the new one is there
inserted_there : (k : Key) (v : Kept) (es : List (Key × Kept)) → Contains (map entry_of (insert_entry key_equality.eq es k v)) (entry_of (k, v))
inserted_there k v [] = (0, omega arith, refl)
inserted_there k v (x ∷ es) = by (key_equality.eq k x.0) refl (inserted_there k v es)
  where
    by : (b : Bool) → key_equality.eq k x.0 ≡ b → Contains (map entry_of (insert_entry key_equality.eq es k v)) (entry_of (k, v))
        → Contains (map entry_of (cond b ((x.0, v) ∷ es) (x ∷ insert_entry key_equality.eq es k v))) (entry_of (k, v))
    by true h more = (0, omega arith, ap (λ l. entry_of (l, v)) (sym (key_same k x.0 h)))
    by false h more = later (entry_of x) (entry_of (k, v)) (map entry_of (insert_entry key_equality.eq es k v)) more

-- and the entries of before, but for what the new one stands in place of
inserted_stay : (k : Key) (v : Kept) (es : List (Key × Kept)) → All (λ e. Contains (map entry_of (insert_entry key_equality.eq es k v)) e ⊎ AreOfOne e (entry_of (k, v))) (map entry_of es)
inserted_stay k v [] = All-nil (λ e. Contains (map entry_of (insert_entry key_equality.eq [] k v)) e ⊎ AreOfOne e (entry_of (k, v)))
inserted_stay k v (x ∷ es) = by (key_equality.eq k x.0) refl (inserted_stay k v es)
  where
    by : (b : Bool) → key_equality.eq k x.0 ≡ b → All (λ e. Contains (map entry_of (insert_entry key_equality.eq es k v)) e ⊎ AreOfOne e (entry_of (k, v))) (map entry_of es)
        → All (λ e. Contains (map entry_of (cond b ((x.0, v) ∷ es) (x ∷ insert_entry key_equality.eq es k v))) e ⊎ AreOfOne e (entry_of (k, v))) (map entry_of (x ∷ es))
    by true h more =
        let Q : Entry → Type 0 = λ e. Contains (map entry_of ((x.0, v) ∷ es)) e ⊎ AreOfOne e (entry_of (k, v)) in
        let same : x.0 ≡ k = sym (key_same k x.0 h) in
        let one : AreOfOne (entry_of x) (entry_of (k, v)) = record { relation = ap (λ l. l.relation) same; term = ap (λ l. l.term) same; inputs = ap (λ l. l.inputs) same } in
        All-cons Q (entry_of x) (map entry_of es) (inr one)
        (All-weaker (Contains (map entry_of es)) Q (λ e c. inl (later (entry_of (x.0, v)) e (map entry_of es) c)) (map entry_of es) (All-contains_itself (map entry_of es)))
    by false h more =
        let made = map entry_of (insert_entry key_equality.eq es k v) in
        let Q : Entry → Type 0 = λ e. Contains (entry_of x ∷ made) e ⊎ AreOfOne e (entry_of (k, v)) in
        All-cons Q (entry_of x) (map entry_of es) (inl (0, omega arith, refl))
        (All-weaker (λ e. Contains made e ⊎ AreOfOne e (entry_of (k, v))) Q (λ e s. elim s [ inl c ↦ inl (later (entry_of x) e made c) | inr f ↦ inr f ]) (map entry_of es) more)

pub inserted : (k : Key) (v : Kept) (es : List (Key × Kept)) → IsWith (map entry_of es) (entry_of (k, v)) (map entry_of (insert_entry key_equality.eq es k v))
inserted k v es = record { there = inserted_there k v es; others = inserted_others k v es; stay = inserted_stay k v es }

module _ (sig : Declarations) (rules : List Rule) (accepted : All (IsAccepted sig) rules) (bank : List Tree) where
  -- with one entry more that is true
  pub grown_true : (old new : List Entry) (entry : Entry) → IsWith old entry new → AreTrueOf sig rules bank old → IsTrueOf sig rules bank entry → AreTrueOf sig rules bank new
  grown_true old new entry with_one all one = All-weaker (λ e. Contains old e ⊎ (e ≡ entry)) (IsTrueOf sig rules bank)
      (λ e s. elim s [ inl c ↦ All-contains (IsTrueOf sig rules bank) old e all c | inr f ↦ subst (IsTrueOf sig rules bank) (sym f) one ]) new with_one.others

  -- an entry that reaches the height, cut
  pub cut_entry : (entries : List Entry) (key : Key) (kept : Kept) (h : ℕ) → AreTrueOf sig rules bank entries → Contains entries (entry_of (key, kept)) → h ≤ kept.height
      → filter (λ o. nat_le o.height h) kept.outcomes ≡ outcomes_at sig rules h key.relation (tree_of bank key.term) key.inputs
  cut_entry entries key kept h all listed reaches =
      let is = All-contains (IsTrueOf sig rules bank) entries (entry_of (key, kept)) all listed in
      let t = tree_of bank key.term in
      one_outcomes sig rules h key.relation t key.inputs (filter (λ o. nat_le o.height h) kept.outcomes) (outcomes_at sig rules h key.relation t key.inputs)
      (cut_outcomes sig rules h kept.height key.relation t key.inputs kept.outcomes reaches is.outcomes) ((are_right sig rules accepted h).are key.relation t key.inputs is.inputs)

  -- an entry that was made
  pub made_entry : (relation : RelId) (id : TermId) (inputs : List Value) (h : ℕ) (outcomes : List Outcome) → IsLive bank id → AreInputs sig relation inputs → outcomes ≡ outcomes_at sig rules h relation (tree_of bank id) inputs
      → IsTrueOf sig rules bank (record { relation = relation; term = id; inputs = inputs; height = h; outcomes = outcomes })
  made_entry relation id inputs h outcomes live sorts e = record {
    live = live;
    inputs = sorts;
    outcomes = subst (AreOutcomes sig rules h relation (tree_of bank id) inputs) (sym e) ((are_right sig rules accepted h).are relation (tree_of bank id) inputs sorts);
  }
