-- A level, nonterminal by nonterminal.
use Rattle.std.proofs.Common.{◌≡◌, ◌↔◌, ℕ, ◌+◌, ◌-◌, ◌<◌, ◌≤◌, Bool, true, List, [], ◌∷◌, ◌++◌, length, get_or, inl, inr, sym, refl, ap, subst, ◌∙◌, arith}
use Rattle.std.specs.BTreeSet.{BTreeSet, contains}
use Rattle.std.specs.List.{sum_by}
use Rattle.std.specs.declared.cmp.Ordering.{Ordering}
use Rattle.std.proofs.lemmas.Bool.{cases_lt}
use Rattle.std.proofs.lemmas.List.{get_or_append_left, get_or_past, get_or_push, length_push}
use Rattle.std.proofs.lemmas.List.Elements.{All-nil}
use Rattle.std.proofs.lemmas.List.Sums.{sum_by_push}
use Rattle.sig_core.specs.declared.ids.ConId.{ConId}
use Rattle.term_core.specs.declared.ids.TermId.{TermId}
use Rattle.term_core.specs.declared.tree.Tree.{Tree}
use Rattle.term_core.specs.Terms.{con_of, kids_of, size}
use Rattle.term_core.specs.Banks.{IsLive, Keeps}
use Rattle.term_core.proofs.Parts.{rolled}
use Rattle.grammar_core.specs.declared.ids.NtId.{NtId}
use Rattle.grammar_core.specs.declared.production.Nonterminal.{Nonterminal}
use Rattle.grammar_core.specs.Grammars.{Lang, Reaches, start}
use Rattle.grammar_core.proofs.Language.{known_by_production, produced}
use Rattle.lens_core.specs.Lenses.{risen}
use Rattle.lens_core.proofs.Staying.{risen_more, risen_none}
use Rattle.size_core.specs.Lists.{IsListOf, list_at}
use Rattle.size_core.proofs.Growing.{none_in}
use Rattle.class_core.specs.Choices.{IsLeaderLevel, LooksAt, LooksAtFirst, SameElsewhere}
use Rattle.class_core.specs.Leaders.{AreCandidates, IsLeader}
use Rattle.class_core.specs.Looks.{AreCandidateLists}
use Rattle.class_core.specs.Standing.{KnowsAt, LeadersStand}
use Rattle.class_core.proofs.Serving.{list_of_stays}

-- the leaders of the first nonterminals, with one more
pub leaders_more : (grammar : List Nonterminal) (same : Tree → Tree → Type 0) (old new : List Tree) → Keeps old new → (k : ℕ) (level more : List (List TermId)) (n : NtId) (ids : List TermId) → n.0 ≡ length level
    → ((m : NtId) → m.0 < n.0 → Reaches grammar start m → IsListOf old (IsLeader grammar same m) k (get_or level m.0 []))
    → (Reaches grammar start n → IsListOf new (IsLeader grammar same n) k ids) → more ≡ level ++ ids ∷ []
    → (m : NtId) → m.0 < n.0 + 1 → Reaches grammar start m → IsListOf new (IsLeader grammar same m) k (get_or more m.0 [])
leaders_more grammar same old new kept k level more n ids at lists mine is m h reached = subst (λ l. IsListOf new (IsLeader grammar same m) k (get_or l m.0 [])) (sym is) (elim (cases_lt m.0 n.0) [
  | inl before ↦ subst (IsListOf new (IsLeader grammar same m) k) (sym (get_or_append_left level (ids ∷ []) [] m.0 (omega arith))) (list_of_stays old new kept (IsLeader grammar same m) k (get_or level m.0 []) (lists m before reached))
  | inr after ↦ (let one : m.0 ≡ n.0 = omega arith in
      subst (IsListOf new (IsLeader grammar same m) k) (sym (get_or_push level ids [] m.0 (omega arith)))
      (subst (λ i. IsListOf new (IsLeader grammar same (record { 0 = i })) k ids) (sym one) (mine (subst (λ i. Reaches grammar start (record { 0 = i })) one reached))))
])

module _ {Mark : Type 0} (grammar : List Nonterminal) (has_mark : Tree → Mark → Type 0) (same : Tree → Tree → Type 0) (cmp : Mark → Mark → Ordering) (n : NtId) (sets sets' : List (BTreeSet Mark)) (others : SameElsewhere n sets sets') where
  -- the sets of the other nonterminals know what they knew
  pub known_elsewhere : (m : NtId) (k : ℕ) → (m.0 ≡ n.0 → ⊥) → KnowsAt grammar has_mark same cmp m k sets → KnowsAt grammar has_mark same cmp m k sets'
  known_elsewhere m k apart known d reached t mark has =
      subst (λ (set : BTreeSet Mark). (contains cmp set mark ≡ true) ↔ ((l : Tree) × IsLeader grammar same m l × (size l ≤ k) × same l t)) (sym (others m.0 d apart)) (known d reached t mark has)

  pub known_more : (k : ℕ) → ((m : NtId) → m.0 < n.0 → KnowsAt grammar has_mark same cmp m k sets) → KnowsAt grammar has_mark same cmp n k sets' → (m : NtId) → m.0 < n.0 + 1 → KnowsAt grammar has_mark same cmp m k sets'
  known_more k before here m h = elim (cases_lt m.0 n.0) [
    | inl less ↦ known_elsewhere m k (λ e. omega arith) (before m less)
    | inr after ↦ (let one : n.0 ≡ m.0 = omega arith in subst (λ i. KnowsAt grammar has_mark same cmp (record { 0 = i }) k sets') one here)
  ]

module _ (grammar : List Nonterminal) (same : Tree → Tree → Type 0) (plain : ConId → ℕ → Bool) (k : ℕ) where
  pub looks_none : (looks : ℕ) → LooksAtFirst grammar same plain k 0 looks looks
  looks_none looks = record {
    lists = [];
    are = record { all = refl; each = λ n h. absurd (omega arith); none = λ n h. absurd (omega arith) };
    looks = sym (risen_none looks);
  }

  -- the candidates of one nonterminal more
  lists_with_more : (n : NtId) (lists : List (List Tree)) → AreCandidateLists grammar same plain k n.0 lists → (terms : List Tree) → (Reaches grammar start n → AreCandidates grammar same plain n k terms) → (¬ Reaches grammar start n → terms ≡ [])
      → AreCandidateLists grammar same plain k (n.0 + 1) (lists ++ terms ∷ [])
  lists_with_more n lists are terms candidates none = record {
    all = length_push lists terms ∙ ap (λ i. i + 1) are.all;
    each = λ m h reached. elim (cases_lt m.0 n.0) [
      | inl less ↦ subst (AreCandidates grammar same plain m k) (sym (get_or_append_left lists (terms ∷ []) [] m.0 (omega (arith, are.all)))) (are.each m less reached)
      | inr after ↦ (let e : m.0 ≡ n.0 = omega arith in
          subst (AreCandidates grammar same plain m k) (sym (get_or_push lists terms [] m.0 (omega (arith, are.all))))
          (subst (λ i. AreCandidates grammar same plain (record { 0 = i }) k terms) (sym e) (candidates (subst (λ i. Reaches grammar start (record { 0 = i })) e reached))))
    ];
    none = λ m h away. elim (cases_lt m.0 n.0) [
      | inl less ↦ get_or_append_left lists (terms ∷ []) [] m.0 (omega (arith, are.all)) ∙ are.none m less away
      | inr after ↦ (let e : m.0 ≡ n.0 = omega arith in
          get_or_push lists terms [] m.0 (omega (arith, are.all)) ∙ none (λ reached. away (subst (λ i. Reaches grammar start (record { 0 = i })) (sym e) reached)))
    ];
  }

  pub looks_more : (n : NtId) (old mid new : ℕ) → LooksAtFirst grammar same plain k n.0 old mid → LooksAt grammar same plain n k mid new → LooksAtFirst grammar same plain k (n.0 + 1) old new
  looks_more n old mid new first one = record {
    lists = first.lists ++ one.terms ∷ [];
    are = lists_with_more n first.lists first.are one.terms one.candidates one.none;
    looks = one.looks ∙ ap (λ i. risen i (length one.terms)) first.looks ∙ risen_more old (sum_by length first.lists) (length one.terms) ∙ ap (risen old) (sym (sum_by_push length first.lists one.terms));
  }

-- a nonterminal that isn't of the grammar has no leader
no_leader : (grammar : List Nonterminal) (bank : List Tree) (same : Tree → Tree → Type 0) (n : NtId) (k : ℕ) → length grammar ≤ n.0 → IsListOf bank (IsLeader grammar same n) k []
no_leader grammar bank same n k past = record {
  live = All-nil (IsLive bank);
  ascending = λ i j d h l. absurd (omega arith);
  exact = λ t. (λ h. absurd (none_in t h), λ h. absurd (no_production t h.0.member));
}
  where
    no_production : (t : Tree) → Lang grammar n t → ⊥
    no_production t h =
        let one = produced grammar n (con_of t) (kids_of t) (subst (Lang grammar n) (sym (rolled t)) h) in
        let known = known_by_production grammar n one.production one.stands in omega arith

-- the levels with one more
pub leader_levels_more : (grammar : List Nonterminal) (same : Tree → Tree → Type 0) (old new : List Tree) (levels more : List (List (List TermId))) (level : List (List TermId)) (k : ℕ) → k ≡ length levels + 1 → Keeps old new
    → LeadersStand grammar old same levels → IsLeaderLevel grammar new same k level → more ≡ levels ++ level ∷ [] → LeadersStand grammar new same more
leader_levels_more grammar same old new levels more level k next kept stands is made n reached i low high =
    let long : length more ≡ length levels + 1 = ap length made ∙ length_push levels level in
    let P = IsLeader grammar same n in
    subst (λ ls. IsListOf new P i (list_at ls n i)) (sym made) (elim (cases_lt (length levels) i) [
      | inl last ↦ (let e : i ≡ k = omega arith in
          subst (λ l. IsListOf new P i (get_or l n.0 [])) (sym (get_or_push levels level [] (i - 1) (omega arith)))
          (subst (λ j. IsListOf new P j (get_or level n.0 [])) (sym e) (elim (cases_lt n.0 (length grammar)) [
            | inl known ↦ is.lists n known reached
            | inr past ↦ subst (IsListOf new P k) (sym (get_or_past level n.0 [] (omega (arith, is.all)))) (no_leader grammar new same n k past)
          ])))
      | inr before ↦ subst (λ l. IsListOf new P i (get_or l n.0 [])) (sym (get_or_append_left levels (level ∷ []) [] (i - 1) (omega arith))) (list_of_stays old new kept P i (list_at levels n i) (stands n reached i low before))
    ])
