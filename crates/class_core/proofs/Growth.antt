-- The classes, one size more.
use Rattle.std.proofs.Common.{◌≡◌, ℕ, ◌+◌, ◌<◌, true, false, List, ◌++◌, length, take, drop, get_or, All, ◌⊎◌, inl, inr, sym, ap, subst, ◌∙◌, arith}
use Rattle.std.specs.BTreeSet.{BTreeSet, IsEmpty, contains}
use Rattle.std.specs.BTreeMap.{is_at}
use Rattle.std.specs.List.{list_any}
use Rattle.std.specs.declared.cmp.Ordering.{Ordering}
use Rattle.std.proofs.lemmas.Bool.{cases_lt}
use Rattle.std.proofs.lemmas.List.{append-nil, drop_all, take_all}
use Rattle.term_core.specs.declared.ids.TermId.{TermId}
use Rattle.term_core.specs.declared.tree.Tree.{Tree}
use Rattle.term_core.specs.Banks.{Keeps}
use Rattle.grammar_core.specs.declared.ids.NtId.{NtId}
use Rattle.grammar_core.specs.declared.production.Nonterminal.{Nonterminal}
use Rattle.size_core.proofs.Made.{one_at_least}
use Rattle.class_core.specs.Standing.{AllKnow, AreClasses, KnowsLeaders}
use Rattle.class_core.proofs.Serving.{leaders_stay}

module _ {Mark : Type 0} (grammar : List Nonterminal) (has_mark : Tree → Mark → Type 0) (same : Tree → Tree → Type 0) (cmp : Mark → Mark → Ordering) where
  -- no leader has size 0
  none_known : (n : NtId) (k : ℕ) (set : BTreeSet Mark) → k ≡ 0 → IsEmpty set → KnowsLeaders grammar has_mark same cmp n k set
  none_known n k set zeroth empty t m has = (
    λ e. absurd (let no : contains cmp set m ≡ false = ap (list_any (is_at (cmp m))) empty in let both : true ≡ false = sym e ∙ no in cc),
    λ one. absurd (omega (arith, one_at_least one.0, one.2)),
  )

  -- the sets are ready for the next size
  pub sets_ready : (sets sets' : List (BTreeSet Mark)) (k count : ℕ) → ((k ≡ 0) × (length sets ≡ 0)) ⊎ (length sets ≡ length grammar) → count ≡ length grammar → AllKnow grammar has_mark same cmp k sets
      → (length sets ≡ 0 → (length sets' ≡ count) × All IsEmpty sets') → (0 < length sets → sets' ≡ sets) → (length sets' ≡ length grammar) × AllKnow grammar has_mark same cmp k sets'
  sets_ready sets sets' k count (inl p) is_count know made kept =
      let new = made p.1 in
      (new.0 ∙ is_count, λ n h d reached. none_known n k (get_or sets' n.0 d) p.0 (new.1 n.0 d h))
  sets_ready sets sets' k count (inr e) is_count know made kept = elim (cases_lt 0 (length sets)) [
    | inl some ↦ (ap length (kept some) ∙ e, subst (AllKnow grammar has_mark same cmp k) (sym (kept some)) know)
    | inr none ↦ (let new = made (omega arith) in
        (new.0 ∙ is_count, λ n h. absurd (omega (arith, new.0))))
  ]

-- a slice that is written back whole
pub whole_back : {X : Type 0} (n : ℕ) (new old : List X) → n ≡ length old → length new ≡ length old → take n (new ++ drop (length new) old) ≡ new
whole_back n new old is long =
    ap (λ rest. take n (new ++ rest)) (drop_all (length new) old (omega arith)) ∙ ap (take n) (append-nil new) ∙ take_all n new (omega arith)

-- where nothing is grown the classes stand for any grammar and any bank
pub new_stands : {Mark : Type 0} (grammar : List Nonterminal) (bank : List Tree) (has_mark : Tree → Mark → Type 0) (same : Tree → Tree → Type 0) (cmp : Mark → Mark → Ordering) (leaders : List (List (List TermId))) (sets : List (BTreeSet Mark)) → length leaders ≡ 0 → length sets ≡ 0 → AreClasses grammar bank has_mark same cmp leaders sets
new_stands grammar bank has_mark same cmp leaders sets no_level no_set = record {
  leads = λ n reached k low high. absurd (omega arith);
  know = λ n h. absurd (omega arith);
  sets_stand = inl (no_level, no_set);
}

-- they stand for a bank whatever is interned in it
pub classes_stay : {Mark : Type 0} (grammar : List Nonterminal) (old new : List Tree) (has_mark : Tree → Mark → Type 0) (same : Tree → Tree → Type 0) (cmp : Mark → Mark → Ordering) (leaders : List (List (List TermId))) (sets : List (BTreeSet Mark)) → Keeps old new → AreClasses grammar old has_mark same cmp leaders sets → AreClasses grammar new has_mark same cmp leaders sets
classes_stay grammar old new has_mark same cmp leaders sets kept is = record {
  leads = leaders_stay grammar old new kept same leaders is.leads;
  know = is.know;
  sets_stand = is.sets_stand;
}
