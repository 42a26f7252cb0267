-- The candidates that are kept are the leaders.
use Rattle.std.proofs.Common.{◌≡◌, ℕ, ◌+◌, ◌<◌, ◌≤◌, Bool, List, map, get_or, All, Contains, inl, inr, sym, ap, subst, ◌∙◌, arith}
use Rattle.std.specs.BTreeSet.{BTreeSet, contains}
use Rattle.std.specs.declared.cmp.Ordering.{Ordering}
use Rattle.std.specs.declared.cmp.Ordering.TheVariants.{Less, Equal}
use Rattle.std.proofs.lemmas.Bool.{cases_eq}
use Rattle.std.proofs.lemmas.List.Elements.{Contains-get_or}
use Rattle.sig_core.specs.Signatures.{Declarations}
use Rattle.sig_core.specs.declared.ids.ConId.{ConId}
use Rattle.term_core.specs.declared.ids.TermId.{TermId}
use Rattle.term_core.specs.declared.tree.Tree.{Tree}
use Rattle.term_core.specs.Banks.{IsLive, tree_of}
use Rattle.term_core.specs.Terms.{size, term_cmp}
use Rattle.term_core.specs.Typings.{IsTermOf}
use Rattle.term_core.proofs.Compare.{itself_equal}
use Rattle.term_core.proofs.Parts.{smaller_first}
use Rattle.grammar_core.specs.declared.ids.NtId.{NtId}
use Rattle.grammar_core.specs.declared.production.Nonterminal.{Nonterminal}
use Rattle.size_core.specs.Lists.{IsListOf}
use Rattle.size_core.proofs.Growing.{mapped}
use Rattle.size_core.proofs.Terms.{ascending_ids, ascending_terms}
use Rattle.class_core.specs.Choices.{AreFirst}
use Rattle.class_core.specs.Leaders.{AreCandidates, IsCandidate, IsLeader}
use Rattle.class_core.specs.Sources.{AreCandidateIds, KeepsLaw}
use Rattle.class_core.specs.Standing.{KnowsLeaders}
use Rattle.class_core.proofs.Keeping.{both_ways}
use Rattle.class_core.proofs.Replacing.{not_larger}
use Rattle.class_core.proofs.Leading.{before_then}
use Rattle.class_core.proofs.Theory.{candidate_in_language, is_term, leader_is_candidate, some_leader}

pub candidate_terms : (grammar : List Nonterminal) (bank : List Tree) (same : Tree → Tree → Type 0) (plain : ConId → ℕ → Bool) (n : NtId) (k : ℕ) (ids : List TermId) → AreCandidateIds grammar bank same plain n k ids → AreCandidates grammar same plain n k (map (tree_of bank) ids)
candidate_terms grammar bank same plain n k ids are = record { ascending = ascending_terms bank ids are.ascending; exact = are.exact }

module _ (sig : Declarations) (grammar : List Nonterminal) (same : Tree → Tree → Type 0) (plain : ConId → ℕ → Bool) (law : KeepsLaw sig grammar same plain) where
  pub candidates_typed : (bank : List Tree) (n : NtId) (k : ℕ) (ids : List TermId) → AreCandidateIds grammar bank same plain n k ids → All (λ id. IsTermOf sig (tree_of bank id)) ids
  candidates_typed bank n k ids are i d h =
      let id = get_or ids i d in
      is_term sig grammar same plain law n (tree_of bank id)
      (candidate_in_language sig grammar same plain law n k (tree_of bank id) ((are.exact (tree_of bank id)).0 (mapped (tree_of bank) ids id (Contains-get_or ids i d h))))

  module _ {Mark : Type 0} (has_mark : Tree → Mark → Type 0) (cmp : Mark → Mark → Ordering) (old new : BTreeSet Mark) (bank : List Tree) (n : NtId) (last k : ℕ) (next : k ≡ last + 1)
      (ids kept : List TermId) (are : AreCandidateIds grammar bank same plain n k ids) (first : AreFirst has_mark same cmp old new (map (tree_of bank) ids) (map (tree_of bank) kept))
      (known : KnowsLeaders grammar has_mark same cmp n last old) where
    leader_kept : (t : Tree) → IsLeader grammar same n t → size t ≡ k → Contains (map (tree_of bank) kept) t
    leader_kept t leader e =
        let candidate = subst (λ j. IsCandidate grammar same plain n j t) e (leader_is_candidate sig grammar same plain law n t leader) in
        let covered = first.covered t ((are.exact t).1 candidate) in
        elim covered.2 [
          | inl seen ↦ absurd (let one = (known t covered.0 covered.1).0 seen in
              leader.first one.0 one.1.member (smaller_first one.0 t (let less : size one.0 < size t = omega (arith, one.2) in less)) one.3)
          | inr p ↦ elim p.3 [
            | inl less ↦ absurd (leader.first p.0 (candidate_in_language sig grammar same plain law n k p.0 ((are.exact p.0).0 (first.among p.0 p.1))) less p.2)
            | inr e' ↦ subst (Contains (map (tree_of bank) kept)) e' p.1
          ]
        ]

    kept_candidate : (t : Tree) → Contains (map (tree_of bank) kept) t → IsCandidate grammar same plain n k t
    kept_candidate t h = (are.exact t).0 (first.among t h)

    kept_leads : (t : Tree) → Contains (map (tree_of bank) kept) t → IsLeader grammar same n t
    kept_leads t h = record {
      member = candidate_in_language sig grammar same plain law n k t (kept_candidate t h);
      first = λ u of_n less same_u. some_leader sig grammar same plain law n u of_n (λ l of.
          (let earlier : term_cmp l t ≡ Less = before_then l u t of.not_after less in
          let equal : same l t = law.equals.onward l u t of.is_same same_u in
          let small : size l ≤ k = (let within : size l ≤ size t = not_larger l t earlier in let of_size = (kept_candidate t h).sized in omega arith) in
          elim (cases_eq (size l) k) [
            | inl e ↦ (let one : l ≡ t = first.apart l t (leader_kept l of.leader e) h equal in
                let wrong : Less ≡ Equal = sym earlier ∙ ap (λ v. term_cmp v t) one ∙ itself_equal t in cc)
            | inr e ↦ (let mark = first.fresh t h in
                both_ways (contains cmp old mark.0) ((known t mark.0 mark.1).1 (l, of.leader, (let low : size l ≤ last = omega arith in low), equal)) mark.2)
          ]));
    }

    pub kept_are_leaders : All (IsLive bank) kept → IsListOf bank (IsLeader grammar same n) k kept
    kept_are_leaders live = record {
      live = live;
      ascending = ascending_ids bank kept first.ascending;
      exact = λ t. (λ h. (kept_leads t h, (kept_candidate t h).sized), λ h. leader_kept t h.0 h.1);
    }

    pub more_known : KnowsLeaders grammar has_mark same cmp n k new
    more_known t m has = (
      λ e. elim ((first.marks t m has).0 e) [
        | inl seen ↦ (let one = (known t m has).0 seen in (one.0, one.1, (let low : size one.0 ≤ k = omega (arith, one.2) in low), one.3))
        | inr p ↦ (p.0, kept_leads p.0 p.1, (let low : size p.0 ≤ k = omega (arith, (kept_candidate p.0 p.1).sized) in low), p.2)
      ],
      λ one. (first.marks t m has).1 (elim (cases_eq (size one.0) k) [
        | inl e ↦ inr (one.0, leader_kept one.0 one.1 e, one.3)
        | inr e ↦ inl ((known t m has).1 (one.0, one.1, (let low : size one.0 ≤ last = omega (arith, one.2) in low), one.3))
      ]),
    )
