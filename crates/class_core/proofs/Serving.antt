-- Sources of children, and the candidates over them.
use Rattle.std.proofs.Common.{◌≡◌, ◌↔◌, ℕ, zero, suc, ◌+◌, ◌-◌, ◌<◌, ◌≤◌, Bool, true, false, MatchBool, List, [], ◌∷◌, ◌++◌, length, map, sum, take, get_or, All, Contains, ◌⊎◌, inl, inr, sym, refl, ap, ap₂, subst, ◌∙◌, arith}
use Rattle.std.specs.List.{AllZip}
use Rattle.std.proofs.lemmas.Bool.{cases_lt}
use Rattle.std.proofs.lemmas.List.{take_more}
use Rattle.std.proofs.lemmas.List.Elements.{All-cons, All-head, All-nil, All-tail, Contains-append_left, Contains-get_or, Contains-push, Contains-push_cases}
use Rattle.std.proofs.lemmas.List.Sums.{sum_by-cons}
use Rattle.sig_core.specs.Signatures.{Declarations}
use Rattle.sig_core.specs.declared.ids.ConId.{ConId}
use Rattle.sig_core.specs.declared.ids.TypeId.{TypeId}
use Rattle.term_core.specs.declared.ids.TermId.{TermId}
use Rattle.term_core.specs.declared.tree.Tree.{Tree}
use Rattle.term_core.specs.Banks.{IsLive, Keeps, tree_of}
use Rattle.term_core.specs.Terms.{size, term_cmp}
use Rattle.term_core.proofs.Order.{size-node}
use Rattle.grammar_core.specs.declared.ids.NtId.{NtId}
use Rattle.grammar_core.specs.declared.production.Nonterminal.{Nonterminal}
use Rattle.grammar_core.specs.declared.production.Production.{Production}
use Rattle.grammar_core.specs.Grammars.{Lang, Reaches, nonterminal_at, onward, productions_of, start}
use Rattle.grammar_core.specs.Languages.{IsGrammarOf}
use Rattle.grammar_core.proofs.Language.{fits_of, production_fits}
use Rattle.size_core.specs.declared.sources.Source.{Source}
use Rattle.size_core.specs.Combinations.{Adds, IsCombined, IsFrom, IsSource, ids_of}
use Rattle.size_core.specs.Lists.{IsAscending, IsListOf, StandFor, list_at}
use Rattle.size_core.proofs.Growing.{live_kept, mapped, none_in, terms_kept, unmapped}
use Rattle.size_core.proofs.Made.{list_past, lists_stay, one_at_least}
use Rattle.class_core.specs.Leaders.{AreChosen, IsCandidate, IsLeader}
use Rattle.class_core.specs.Sources.{AreCandidateIds, AreSourcesAt, HasPlaces, IsChosenBy, IsChosenByOne, IsSourceAt, ListsServe}
use Rattle.class_core.specs.Standing.{AreLeadersOf, LeadersStand}

-- a source with one place more
pub sources_last : (leaders lists : List (List (List TermId))) (plain : ℕ → Bool) (i j : ℕ) (args : List NtId) (sources : List Source) (n : NtId) (s : Source) → j ≡ i + length args
    → AreSourcesAt leaders lists plain i args sources → IsSourceAt leaders lists (plain j) n s → AreSourcesAt leaders lists plain i (args ++ n ∷ []) (sources ++ s ∷ [])
sources_last leaders lists plain i j [] [] n s at all one = (subst (λ k. IsSourceAt leaders lists (plain k) n s) (let same : j ≡ i = omega arith in same) one, tt)
sources_last leaders lists plain i j [] (r ∷ sources) n s at all one = absurd all
sources_last leaders lists plain i j (m ∷ args) [] n s at all one = absurd all
sources_last leaders lists plain i j (m ∷ args) (r ∷ sources) n s at all one = (all.0, sources_last leaders lists plain (suc i) j args sources n s (let next : j ≡ suc i + length args = omega arith in next) all.1 one)

-- the source gives exactly the terms that P says, of sizes up to last
pub record Serves (bank : List Tree) (source : Source) (last : ℕ) (P : Tree → Type 0) : Type 0 where
  pub fine : IsSource bank source
  pub gives : (t : Tree) → size t ≤ last → IsFrom bank t source → P t
  pub takes : (t : Tree) → size t ≤ last → P t → IsFrom bank t source

module _ (bank : List Tree) (levels : List (List (List TermId))) (n : NtId) (P : Tree → Type 0) (lists : (k : ℕ) → 1 ≤ k → k ≤ length levels → IsListOf bank P k (list_at levels n k)) where
  live_from_one : (k : ℕ) → 1 ≤ k → All (IsLive bank) (list_at levels n k)
  live_from_one k low = elim (cases_lt (length levels) k) [
    | inl past ↦ subst (All (IsLive bank)) (sym (list_past levels n k (omega arith))) (All-nil (IsLive bank))
    | inr within ↦ (lists k low within).live
  ]

  live_at : (k : ℕ) → All (IsLive bank) (list_at levels n k)
  live_at zero = live_from_one 1 (omega arith)
  live_at (suc k) = live_from_one (suc k) (omega arith)

  sized_within : (k : ℕ) → IsListOf bank P k (list_at levels n k) → All (λ id. size (tree_of bank id) ≡ k) (list_at levels n k)
  sized_within k is i d h =
      let id = get_or (list_at levels n k) i d in
      ((is.exact (tree_of bank id)).0 (mapped (tree_of bank) (list_at levels n k) id (Contains-get_or (list_at levels n k) i d h))).1

  sized_at : (k : ℕ) → 1 ≤ k → All (λ id. size (tree_of bank id) ≡ k) (list_at levels n k)
  sized_at k low = elim (cases_lt (length levels) k) [
    | inl past ↦ subst (All (λ id. size (tree_of bank id) ≡ k)) (sym (list_past levels n k (omega arith))) (All-nil (λ id. size (tree_of bank id) ≡ k))
    | inr within ↦ sized_within k (lists k low within)
  ]

  pub serves_by : (last : ℕ) → last ≤ length levels → (source : Source) → source.levels.now ≡ levels → source.nt ≡ n → Serves bank source last P
  serves_by last few source of_levels of_nt =
      let same : (k : ℕ) → ids_of source k ≡ list_at levels n k = λ k. ap₂ (λ ls m. list_at ls m k) of_levels of_nt in record {
        fine = record {
          live = λ k. subst (All (IsLive bank)) (sym (same k)) (live_at k);
          sized = λ k low. subst (All (λ id. size (tree_of bank id) ≡ k)) (sym (same k)) (sized_at k low);
        };
        gives = λ t small h. (((lists (size t) (one_at_least t) (omega arith)).exact t).0 (subst (λ ids. Contains (map (tree_of bank) ids) t) (same (size t)) h)).0;
        takes = λ t small h. subst (λ ids. Contains (map (tree_of bank) ids) t) (sym (same (size t))) (((lists (size t) (one_at_least t) (omega arith)).exact t).1 (h, refl));
      }

module _ (grammar : List Nonterminal) (bank : List Tree) (same : Tree → Tree → Type 0) (last : ℕ) where
  -- what is asked of a child at a place
  abbrev pub Asked : Bool → NtId → Tree → Type 0
  Asked b m t = MatchBool b (IsLeader grammar same m t) (Lang grammar m t)

  abbrev pub AllServe : (ℕ → Bool) → ℕ → List NtId → List Source → Type 0
  AllServe plain i [] [] = Unit {0}
  AllServe plain i [] (s ∷ sources) = ⊥
  AllServe plain i (m ∷ args) [] = ⊥
  AllServe plain i (m ∷ args) (s ∷ sources) = Serves bank s last (Asked (plain i) m) × AllServe plain (suc i) args sources

  module _ (leaders lists : List (List (List TermId))) (long : last ≤ length leaders) where
    one_serves : (b : Bool) (m : NtId) (source : Source) → IsSourceAt leaders lists b m source → AreLeadersOf grammar bank same m leaders
        → (b ≡ false → StandFor grammar bank lists × (last ≤ length lists)) → Reaches grammar start m → Serves bank source last (Asked b m)
    one_serves true m source at led other reached = serves_by bank leaders m (IsLeader grammar same m) led last long source at.levels at.nt
    one_serves false m source at led other reached =
        let stands = other refl in
        serves_by bank lists m (Lang grammar m) (stands.0 m reached) last stands.1 source at.levels at.nt

    pub all_serve : (plain : ℕ → Bool) (i : ℕ) (args : List NtId) (sources : List Source) → AreSourcesAt leaders lists plain i args sources → All (λ m. AreLeadersOf grammar bank same m leaders) args → All (Reaches grammar start) args
        → ((j : ℕ) → i ≤ j → j < i + length args → plain j ≡ false → StandFor grammar bank lists × (last ≤ length lists)) → AllServe plain i args sources
    all_serve plain i [] [] are led reached other = tt
    all_serve plain i [] (s ∷ sources) are led reached other = absurd are
    all_serve plain i (m ∷ args) [] are led reached other = absurd are
    all_serve plain i (m ∷ args) (s ∷ sources) are led reached other = (
      one_serves (plain i) m s are.0 (All-head (λ m. AreLeadersOf grammar bank same m leaders) m args led) (λ off. other i (omega arith) (omega arith) off) (All-head (Reaches grammar start) m args reached),
      all_serve plain (suc i) args sources are.1 (All-tail (λ m. AreLeadersOf grammar bank same m leaders) m args led) (All-tail (Reaches grammar start) m args reached)
          (λ j h l off. other j (omega arith) (omega arith) off),
    )

  pub all_fine : (plain : ℕ → Bool) (i : ℕ) (args : List NtId) (sources : List Source) → AllServe plain i args sources → All (IsSource bank) sources
  all_fine plain i [] [] all = All-nil (IsSource bank)
  all_fine plain i [] (s ∷ sources) all = absurd all
  all_fine plain i (m ∷ args) [] all = absurd all
  all_fine plain i (m ∷ args) (s ∷ sources) all = All-cons (IsSource bank) s sources all.0.fine (all_fine plain (suc i) args sources all.1)

  sum-cons : (t : Tree) (ts : List Tree) → sum (map size (t ∷ ts)) ≡ size t + sum (map size ts)
  sum-cons t ts = sum_by-cons (λ m. m) (size t) (map size ts)

  chosen_from : (plain : ℕ → Bool) (i : ℕ) (kids : List Tree) (args : List NtId) (sources : List Source) → AllServe plain i args sources → sum (map size kids) ≤ last → AllZip (IsFrom bank) kids sources → AreChosen grammar same plain i kids args
  chosen_from plain i [] [] [] all small from = tt
  chosen_from plain i kids [] (s ∷ sources) all small from = absurd all
  chosen_from plain i kids (m ∷ args) [] all small from = absurd all
  chosen_from plain i [] (m ∷ args) (s ∷ sources) all small from = absurd from
  chosen_from plain i (t ∷ kids) [] [] all small from = absurd from
  chosen_from plain i (t ∷ kids) (m ∷ args) (s ∷ sources) all small from =
      let whole = sum-cons t kids in
      (all.0.gives t (omega arith) from.0, chosen_from plain (suc i) kids args sources all.1 (omega arith) from.1)

  chosen_to : (plain : ℕ → Bool) (i : ℕ) (kids : List Tree) (args : List NtId) (sources : List Source) → AllServe plain i args sources → sum (map size kids) ≤ last → AreChosen grammar same plain i kids args → AllZip (IsFrom bank) kids sources
  chosen_to plain i [] [] [] all small chosen = tt
  chosen_to plain i kids [] (s ∷ sources) all small chosen = absurd all
  chosen_to plain i kids (m ∷ args) [] all small chosen = absurd all
  chosen_to plain i [] (m ∷ args) (s ∷ sources) all small chosen = absurd chosen
  chosen_to plain i (t ∷ kids) [] [] all small chosen = absurd chosen
  chosen_to plain i (t ∷ kids) (m ∷ args) (s ∷ sources) all small chosen =
      let whole = sum-cons t kids in
      (all.0.takes t (omega arith) chosen.0, chosen_to plain (suc i) kids args sources all.1 (omega arith) chosen.1)

  module _ (plain : ConId → ℕ → Bool) (p : Production) (sources : List Source) (all : AllServe (plain p.con) 0 p.args sources) (k : ℕ) (next : k ≡ last + 1) (t : Tree) where
    pub chosen_by : IsCombined bank p.con [] sources (k - 1) t → IsChosenBy grammar same plain p k t
    chosen_by c = record {
      kids = c.others;
      is = c.is;
      children = chosen_from (plain p.con) 0 c.others p.args sources all (omega (arith, c.sized)) c.from;
      sized = ap size c.is ∙ size-node p.con c.others ∙ (let whole : 1 + sum (map size c.others) ≡ k = omega (arith, c.sized) in whole);
    }

    pub combined_by : IsChosenBy grammar same plain p k t → IsCombined bank p.con [] sources (k - 1) t
    combined_by chosen =
        let whole : 1 + sum (map size chosen.kids) ≡ k = sym (size-node p.con chosen.kids) ∙ ap size (sym chosen.is) ∙ chosen.sized in record {
          others = chosen.kids;
          from = chosen_to (plain p.con) 0 chosen.kids p.args sources all (omega arith) chosen.children;
          sized = (let less : sum (map size chosen.kids) ≡ k - 1 = omega arith in less);
          is = chosen.is;
        }

-- one production more
module _ (grammar : List Nonterminal) (same : Tree → Tree → Type 0) (plain : ConId → ℕ → Bool) (items : List Production) (i : ℕ) (p : Production) (h : i < length items) (e : p ≡ get_or items i p) (k : ℕ) (t : Tree) where
  pub one_more_chosen : IsChosenByOne grammar same plain (take i items) k t ⊎ IsChosenBy grammar same plain p k t → IsChosenByOne grammar same plain (take (i + 1) items) k t
  one_more_chosen (inl (q, there, c)) = (q, subst (λ ps. Contains ps q) (sym (take_more items i p h)) (Contains-append_left (take i items) (get_or items i p ∷ []) q there), c)
  one_more_chosen (inr c) = (p, subst (λ ps. Contains ps p) (sym (take_more items i p h)) (subst (λ q. Contains (take i items ++ q ∷ []) p) e (Contains-push (take i items) p)), c)

  pub chosen_one_less : IsChosenByOne grammar same plain (take (i + 1) items) k t → IsChosenByOne grammar same plain (take i items) k t ⊎ IsChosenBy grammar same plain p k t
  chosen_one_less (q, there, c) = elim (Contains-push_cases (take i items) (get_or items i p) q (subst (λ ps. Contains ps q) (take_more items i p h) there)) [
    | inl old ↦ inl (q, old, c)
    | inr new ↦ inr (subst (λ r. IsChosenBy grammar same plain r k t) (sym (e ∙ new)) c)
  ]

module _ (grammar : List Nonterminal) (same : Tree → Tree → Type 0) (plain : ConId → ℕ → Bool) (n : NtId) (k : ℕ) (t : Tree) where
  candidate_of : IsChosenByOne grammar same plain (productions_of grammar n) k t → IsCandidate grammar same plain n k t
  candidate_of (p, stands, c) = record { sized = c.sized; production = p; stands = stands; kids = c.kids; is = c.is; children = c.children }

  of_candidate : IsCandidate grammar same plain n k t → IsChosenByOne grammar same plain (productions_of grammar n) k t
  of_candidate c = (c.production, c.stands, record { kids = c.kids; is = c.is; children = c.children; sized = c.sized })

-- the ids of all that is chosen, sorted, are the candidates
pub candidates_from : (grammar : List Nonterminal) (bank : List Tree) (same : Tree → Tree → Type 0) (plain : ConId → ℕ → Bool) (n : NtId) (k : ℕ) (ids kept : List TermId)
    → Adds (IsChosenByOne grammar same plain (productions_of grammar n) k) [] (map (tree_of bank) ids) → All (IsLive bank) kept → IsAscending bank kept → ((id : TermId) → Contains kept id ↔ Contains ids id)
    → AreCandidateIds grammar bank same plain n k kept
candidates_from grammar bank same plain n k ids kept adds live up stay = record {
  live = live;
  ascending = up;
  exact = λ t. (
    λ h. (let one = unmapped (tree_of bank) kept t h in
        let there = subst (Contains (map (tree_of bank) ids)) one.2 (mapped (tree_of bank) ids one.0 ((stay one.0).0 one.1)) in
        elim (adds.only t there) [ inl none ↦ absurd (none_in t none) | inr c ↦ candidate_of grammar same plain n k t c ]),
    λ h. (let one = unmapped (tree_of bank) ids t (adds.added t (of_candidate grammar same plain n k t h)) in
        subst (Contains (map (tree_of bank) kept)) one.2 (mapped (tree_of bank) kept one.0 ((stay one.0).1 one.1))),
  );
}

-- what is said of lists in a bank stays as it grows
pub list_of_stays : (old new : List Tree) → Keeps old new → (P : Tree → Type 0) (k : ℕ) (ids : List TermId) → IsListOf old P k ids → IsListOf new P k ids
list_of_stays old new kept P k ids is = record {
  live = live_kept old new kept ids is.live;
  ascending = λ i j d h l. ap₂ term_cmp (kept.same (get_or ids i d) (is.live i d (omega arith))) (kept.same (get_or ids j d) (is.live j d l)) ∙ is.ascending i j d h l;
  exact = λ t. subst (λ ts. Contains ts t ↔ (P t × (size t ≡ k))) (sym (terms_kept old new kept ids is.live)) (is.exact t);
}

pub leaders_stay : (grammar : List Nonterminal) (old new : List Tree) → Keeps old new → (same : Tree → Tree → Type 0) (levels : List (List (List TermId))) → LeadersStand grammar old same levels → LeadersStand grammar new same levels
leaders_stay grammar old new kept same levels stand n reached k low high = list_of_stays old new kept (IsLeader grammar same n) k (list_at levels n k) (stand n reached k low high)

-- the places of a production are those of its constructor
pub places_of : (sig : Declarations) (grammar : List Nonterminal) → IsGrammarOf sig grammar → (n : NtId) (p : Production) → Contains (productions_of grammar n) p → HasPlaces sig p
places_of sig grammar fits n p stands i h =
    let fit = fits_of sig grammar (nonterminal_at grammar n).owner p (production_fits sig grammar fits n p stands) in
    (fit.constructor, fit.stands, omega (arith, length_all_pairs fit.constructor.args p.args fit.args))
  where
    length_all_pairs : (types : List TypeId) (args : List NtId) → AllZip (λ t m. (nonterminal_at grammar m).owner ≡ t) types args → length types ≡ length args
    length_all_pairs [] [] all = refl
    length_all_pairs [] (m ∷ args) all = absurd all
    length_all_pairs (t ∷ types) [] all = absurd all
    length_all_pairs (t ∷ types) (m ∷ args) all = ap suc (length_all_pairs types args all.1)

-- the sources of a production of a nonterminal that the start leads to
pub production_serves : (grammar : List Nonterminal) (bank : List Tree) (same : Tree → Tree → Type 0) (plain : ConId → ℕ → Bool) (leaders lists : List (List (List TermId))) → LeadersStand grammar bank same leaders → ListsServe grammar bank plain lists (length leaders)
    → (n : NtId) → Reaches grammar start n → (p : Production) → Contains (productions_of grammar n) p → (sources : List Source) → AreSourcesAt leaders lists (plain p.con) 0 p.args sources → AllServe grammar bank same (length leaders) (plain p.con) 0 p.args sources
production_serves grammar bank same plain leaders lists led served n reached p there sources are =
    let children : All (Reaches grammar start) p.args = λ i d h. onward reached (record { production = p; stands = there; child = Contains-get_or p.args i d h }) in
    all_serve grammar bank same (length leaders) leaders lists (omega arith) (plain p.con) 0 p.args sources are (λ i d h. led (get_or p.args i d) (children i d h)) children
    (λ j h l off. served (record { nonterminal = n; reached = reached; production = p; stands = there; place = j; within = omega arith; other = off }))

pub lists_serve_stay : (grammar : List Nonterminal) (old new : List Tree) → Keeps old new → (plain : ConId → ℕ → Bool) (lists : List (List (List TermId))) (k : ℕ) → ListsServe grammar old plain lists k → ListsServe grammar new plain lists k
lists_serve_stay grammar old new kept plain lists k served other = let is = served other in (lists_stay grammar old new lists kept is.0, is.1)
