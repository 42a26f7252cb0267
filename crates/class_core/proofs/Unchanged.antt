-- What is said through a lens, after it became one of the same meaning.
use Rattle.std.proofs.Common.{◌≡◌, ℕ, suc, Bool, true, false, MatchBool, List, [], ◌∷◌, get_or, sym, ◌∙◌}
use Rattle.std.specs.BTreeSet.{BTreeSet}
use Rattle.std.specs.declared.cmp.Ordering.{Ordering}
use Rattle.sig_core.specs.Signatures.{Declarations}
use Rattle.sig_core.specs.declared.ids.ConId.{ConId}
use Rattle.term_core.specs.declared.ids.TermId.{TermId}
use Rattle.term_core.specs.declared.tree.Tree.{Tree}
use Rattle.grammar_core.specs.declared.ids.NtId.{NtId}
use Rattle.grammar_core.specs.declared.production.Nonterminal.{Nonterminal}
use Rattle.grammar_core.specs.Grammars.{Lang}
use Rattle.lens_core.specs.Lenses.{Stays}
use Rattle.size_core.specs.Lists.{IsListOf, list_at}
use Rattle.class_core.specs.Leaders.{AreCandidates, AreChosen, IsCandidate, IsLeader}
use Rattle.class_core.specs.Looks.{IsCandidateCount, IsLooks}
use Rattle.class_core.specs.Sources.{ListsServe}
use Rattle.class_core.specs.Standing.{HasOtherPlace, KnowsLeaders, LeadersStand, ListsStand}

-- between lenses of one meaning either may come first
pub Stays-sym : {Mark : Type 0} (marks marks' : Tree → Mark → Type 0) (same same' : Tree → Tree → Type 0) (signatures signatures' : Declarations → Type 0) (plain plain' : ConId → ℕ → Bool) → Stays marks marks' same same' signatures signatures' plain plain' → Stays marks' marks same' same signatures' signatures plain' plain
Stays-sym marks marks' same same' signatures signatures' plain plain' is = record {
  marks_stay = λ t m. ((is.marks_stay t m).1, (is.marks_stay t m).0);
  equals_stay = λ t u. ((is.equals_stay t u).1, (is.equals_stay t u).0);
  signatures_stay = λ sig. ((is.signatures_stay sig).1, (is.signatures_stay sig).0);
  places_stay = λ con i. sym (is.places_stay con i);
}

module _ {Mark : Type 0} (marks marks' : Tree → Mark → Type 0) (same same' : Tree → Tree → Type 0) (signatures signatures' : Declarations → Type 0) (plain plain' : ConId → ℕ → Bool) (is : Stays marks marks' same same' signatures signatures' plain plain') (grammar : List Nonterminal) where
  to_leader : (n : NtId) (t : Tree) → IsLeader grammar same n t → IsLeader grammar same' n t
  to_leader n t leader = record { member = leader.member; first = λ u h less s. leader.first u h less ((is.equals_stay u t).0 s) }

  from_leader : (n : NtId) (t : Tree) → IsLeader grammar same' n t → IsLeader grammar same n t
  from_leader n t leader = record { member = leader.member; first = λ u h less s. leader.first u h less ((is.equals_stay u t).1 s) }

  pub to_list : (bank : List Tree) (n : NtId) (k : ℕ) (ids : List TermId) → IsListOf bank (IsLeader grammar same n) k ids → IsListOf bank (IsLeader grammar same' n) k ids
  to_list bank n k ids list = record {
    live = list.live;
    ascending = list.ascending;
    exact = λ t. (
      λ h. (let one = (list.exact t).0 h in (to_leader n t one.0, one.1)),
      λ h. (list.exact t).1 (from_leader n t h.0, h.1),
    );
  }

  pub to_leaders : (bank : List Tree) (levels : List (List (List TermId))) → LeadersStand grammar bank same levels → LeadersStand grammar bank same' levels
  to_leaders bank levels stand n reached k low high = to_list bank n k (list_at levels n k) (stand n reached k low high)

  from_other : HasOtherPlace grammar plain' → HasOtherPlace grammar plain
  from_other other = record {
    nonterminal = other.nonterminal;
    reached = other.reached;
    production = other.production;
    stands = other.stands;
    place = other.place;
    within = other.within;
    other = sym (is.places_stay other.production.con other.place) ∙ other.other;
  }

  pub to_serve : (bank : List Tree) (lists : List (List (List TermId))) (k : ℕ) → ListsServe grammar bank plain lists k → ListsServe grammar bank plain' lists k
  to_serve bank lists k served other = served (from_other other)

  pub to_stand : (bank : List Tree) (lists : List (List (List TermId))) (k : ℕ) → ListsStand grammar bank plain lists k → ListsStand grammar bank plain' lists k
  to_stand bank lists k stand other = stand (from_other other)

  pub to_known : (cmp : Mark → Mark → Ordering) (n : NtId) (k : ℕ) (set : BTreeSet Mark) → KnowsLeaders grammar marks same cmp n k set → KnowsLeaders grammar marks' same' cmp n k set
  to_known cmp n k set known t m has = (
    λ e. (let one = (known t m ((is.marks_stay t m).0 has)).0 e in (one.0, to_leader n one.0 one.1, one.2, (is.equals_stay one.0 t).1 one.3)),
    λ one. (known t m ((is.marks_stay t m).0 has)).1 (one.0, from_leader n one.0 one.1, one.2, (is.equals_stay one.0 t).0 one.3),
  )

  to_child : (b c : Bool) (m : NtId) (t : Tree) → c ≡ b → MatchBool b (IsLeader grammar same m t) (Lang grammar m t) → MatchBool c (IsLeader grammar same' m t) (Lang grammar m t)
  to_child true true m t e h = to_leader m t h
  to_child true false m t e h = absurd cc
  to_child false true m t e h = absurd cc
  to_child false false m t e h = h

  from_child : (b c : Bool) (m : NtId) (t : Tree) → c ≡ b → MatchBool c (IsLeader grammar same' m t) (Lang grammar m t) → MatchBool b (IsLeader grammar same m t) (Lang grammar m t)
  from_child true true m t e h = from_leader m t h
  from_child true false m t e h = absurd cc
  from_child false true m t e h = absurd cc
  from_child false false m t e h = h

  to_chosen : (con : ConId) (i : ℕ) (ts : List Tree) (args : List NtId) → AreChosen grammar same (plain con) i ts args → AreChosen grammar same' (plain' con) i ts args
  to_chosen con i [] [] all = tt
  to_chosen con i [] (m ∷ args) all = absurd all
  to_chosen con i (t ∷ ts) [] all = absurd all
  to_chosen con i (t ∷ ts) (m ∷ args) all = (to_child (plain con i) (plain' con i) m t (is.places_stay con i) all.0, to_chosen con (suc i) ts args all.1)

  from_chosen : (con : ConId) (i : ℕ) (ts : List Tree) (args : List NtId) → AreChosen grammar same' (plain' con) i ts args → AreChosen grammar same (plain con) i ts args
  from_chosen con i [] [] all = tt
  from_chosen con i [] (m ∷ args) all = absurd all
  from_chosen con i (t ∷ ts) [] all = absurd all
  from_chosen con i (t ∷ ts) (m ∷ args) all = (from_child (plain con i) (plain' con i) m t (is.places_stay con i) all.0, from_chosen con (suc i) ts args all.1)

  to_candidate : (n : NtId) (k : ℕ) (t : Tree) → IsCandidate grammar same plain n k t → IsCandidate grammar same' plain' n k t
  to_candidate n k t c = record { sized = c.sized; production = c.production; stands = c.stands; kids = c.kids; is = c.is; children = to_chosen c.production.con 0 c.kids c.production.args c.children }

  from_candidate : (n : NtId) (k : ℕ) (t : Tree) → IsCandidate grammar same' plain' n k t → IsCandidate grammar same plain n k t
  from_candidate n k t c = record { sized = c.sized; production = c.production; stands = c.stands; kids = c.kids; is = c.is; children = from_chosen c.production.con 0 c.kids c.production.args c.children }

  pub to_candidates : (n : NtId) (k : ℕ) (terms : List Tree) → AreCandidates grammar same plain n k terms → AreCandidates grammar same' plain' n k terms
  to_candidates n k terms are = record {
    ascending = are.ascending;
    exact = λ t. (λ h. to_candidate n k t ((are.exact t).0 h), λ c. (are.exact t).1 (from_candidate n k t c));
  }

  pub to_count : (k count : ℕ) → IsCandidateCount grammar same plain k count → IsCandidateCount grammar same' plain' k count
  to_count k count counted = record {
    lists = counted.lists;
    are = record {
      all = counted.are.all;
      each = λ n h reached. to_candidates n k (get_or counted.lists n.0 []) (counted.are.each n h reached);
      none = counted.are.none;
    };
    is = counted.is;
  }

  pub to_looks : (last looks : ℕ) → IsLooks grammar same plain last looks → IsLooks grammar same' plain' last looks
  to_looks last looks of = record {
    counts = of.counts;
    all = of.all;
    counted = λ k h. to_count (suc k) (get_or of.counts k 0) (of.counted k h);
    total = of.total;
  }
