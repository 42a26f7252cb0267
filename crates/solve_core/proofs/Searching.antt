-- A search through the leaders of the start, size by size.
use Rattle.std.proofs.Common.{◌≡◌, ◌<◌, ◌↔◌, inl, inr, ℕ, zero, suc, Option, Some, None, List, [], ◌∷◌, map, take, length, get_or, All, Contains, sym, ap, ◌∙◌, subst, arith}
use Rattle.std.specs.declared.cmp.Ordering.TheVariants.{Less}
use Rattle.std.proofs.lemmas.Bool.{cases_lt}
use Rattle.std.proofs.lemmas.List.{get_or-map, length-map, take-map}
use Rattle.std.proofs.lemmas.List.Elements.{All-contains, All-map}
use Rattle.std.proofs.lemmas.Option.{get_or_from_slice_get, slice_get_within}
use Rattle.term_core.specs.declared.ids.TermId.{TermId}
use Rattle.term_core.specs.declared.tree.Tree.{Tree}
use Rattle.term_core.specs.Banks.{IsLive, tree_of}
use Rattle.term_core.specs.Terms.{size, term_cmp}
use Rattle.term_core.proofs.Order.{term_cmp-total}
use Rattle.grammar_core.specs.Grammars.{start}
use Rattle.problem_core.specs.Problems.{Parts, Solves}
use Rattle.size_core.specs.Lists.{IsListOf}
use Rattle.class_core.specs.Leaders.{IsLeader}
use Rattle.class_core.proofs.Leading.{never_before_itself}
use Rattle.class_core.proofs.Replacing.{not_larger}
use Rattle.solve_core.specs.Searching.{FoundIsFirst, IsFirstOfSize, IsFoundOfSize, NoneFoundIsNone, NoneOfSize}
use Rattle.solve_core.specs.Verifying.{IsFirstOf, IsFirstSolving}

pub found_is_first : (problem : Parts) (same : Tree → Tree → Type 0) → FoundIsFirst problem same
found_is_first problem same h n k t few none found = record {
  leading = record {
    solution = record { member = found.leader.member; small = (let e = found.sized in omega arith); solves = found.solves };
    leader = found.leader;
  };
  first = λ u leading less. elim (cases_lt (size u) k) [
    | inl smaller ↦ none u leading.leader smaller leading.solution.solves
    | inr large ↦
        (let small = not_larger u t less in
        let e = found.sized in
        let sized : size u ≡ k = omega arith in
        found.first u leading.leader sized leading.solution.solves less)
  ];
}

pub none_found_is_none : (problem : Parts) (same : Tree → Tree → Type 0) → NoneFoundIsNone problem same
none_found_is_none problem same h n k above none t leading =
    let small = leading.solution.small in
    none t leading.leader (omega arith) leading.solution.solves

-- an item at an earlier place is among the first
in_front : {X : Type 0} (xs : List X) (i k : ℕ) (x : X) → k < i → k < length xs → get_or xs k x ≡ x → Contains (take i xs) x
in_front [] i k x less l e = absurd (omega arith)
in_front (y ∷ xs) zero k x less l e = absurd (omega arith)
in_front (y ∷ xs) (suc i) zero x less l e = (0, omega arith, e)
in_front (y ∷ xs) (suc i) (suc k) x less l e = let c = in_front xs i k x (omega arith) (omega arith) e in (suc c.0, (let m = c.1 in omega arith), c.2)

-- what is found in the list of the leaders of size k
module _ (problem : Parts) (h : ℕ) (same : Tree → Tree → Type 0) (k : ℕ) (bank : List Tree) (ids : List TermId) (list : IsListOf bank (IsLeader problem.grammar same start) k ids) where
  none_in_list : All (λ id. ¬ Solves problem h (tree_of bank id)) ids → NoneOfSize problem h same k
  none_in_list none t leader sized =
      All-contains (λ u. ¬ Solves problem h u) (map (tree_of bank) ids) t (All-map (λ u. ¬ Solves problem h u) (tree_of bank) ids none) ((list.exact t).1 (leader, sized))

  module _ (id : TermId) (found : IsFirstSolving problem h bank ids id) where
    within : found.place < length ids
    within = slice_get_within ids found.place id found.at

    here : get_or ids found.place id ≡ id
    here = get_or_from_slice_get ids found.place id id found.at

    member : Contains (map (tree_of bank) ids) (tree_of bank id)
    member = (
      found.place,
      subst (λ n. found.place < n) (sym (length-map ids (tree_of bank))) within,
      get_or-map (tree_of bank) ids found.place id (tree_of bank id) within ∙ ap (tree_of bank) here,
    )

    none_in_front : All (λ u. ¬ Solves problem h u) (take found.place (map (tree_of bank) ids))
    none_in_front =
        subst (All (λ u. ¬ Solves problem h u)) (sym (take-map (tree_of bank) found.place ids))
        (All-map (λ u. ¬ Solves problem h u) (tree_of bank) (take found.place ids) found.none_before)

    not_before : (u : Tree) → Contains (map (tree_of bank) ids) u → Solves problem h u → ¬ (term_cmp u (tree_of bank id) ≡ Less)
    not_before u c solves less =
        let low : c.0 < length ids = subst (λ n. c.0 < n) (length-map ids (tree_of bank)) c.1 in
        let at : tree_of bank (get_or ids c.0 id) ≡ u = sym (get_or-map (tree_of bank) ids c.0 id u low) ∙ c.2 in
        let mine : tree_of bank (get_or ids found.place id) ≡ tree_of bank id = ap (tree_of bank) here in
        elim (cases_lt c.0 found.place) [
          | inl before ↦
              All-contains (λ x. ¬ Solves problem h x) (take found.place (map (tree_of bank) ids)) u none_in_front (in_front (map (tree_of bank) ids) found.place c.0 u before c.1 c.2) solves
          | inr past ↦ elim (cases_lt found.place c.0) [
            | inl after ↦
                (let later : term_cmp (tree_of bank id) u ≡ Less = subst (λ x. term_cmp x u ≡ Less) mine
                (subst (λ x. term_cmp (tree_of bank (get_or ids found.place id)) x ≡ Less) at (list.ascending found.place c.0 id after low)) in
                never_before_itself u (term_cmp-total.trans u (tree_of bank id) u less later))
            | inr also ↦
                (let place : found.place ≡ c.0 = omega arith in
                let is : tree_of bank id ≡ u = sym mine ∙ ap (λ j. tree_of bank (get_or ids j id)) place ∙ at in
                never_before_itself u (subst (λ x. term_cmp u x ≡ Less) is less))
          ]
        ]

    first_in_list : IsLive bank id × IsFirstOfSize problem h same k (tree_of bank id)
    first_in_list =
        let is = (list.exact (tree_of bank id)).0 member in (
          subst (IsLive bank) here (list.live found.place id within),
          record { leader = is.0; sized = is.1; solves = found.solves; first = λ u leader sized. not_before u ((list.exact u).1 (leader, sized)) },
        )

  pub found_in_list : (found : Option TermId) → IsFirstOf problem h bank ids found → IsFoundOfSize problem h same k bank found
  found_in_list None none = none_in_list none
  found_in_list (Some id) first = first_in_list id first

-- what is found through a lens, seen through one that gives the same terms equal marks
module _ (problem : Parts) (h : ℕ) (same same' : Tree → Tree → Type 0) (stay : (t u : Tree) → same' t u ↔ same t u) (k : ℕ) where
  leads : (t : Tree) → IsLeader problem.grammar same' start t → IsLeader problem.grammar same start t
  leads t leader = record { member = leader.member; first = λ u lang less is_same. leader.first u lang less ((stay u t).1 is_same) }

  pub led : (t : Tree) → IsLeader problem.grammar same start t → IsLeader problem.grammar same' start t
  led t leader = record { member = leader.member; first = λ u lang less is_same. leader.first u lang less ((stay u t).0 is_same) }

  pub none_seen : NoneOfSize problem h same' k → NoneOfSize problem h same k
  none_seen none t leader = none t (led t leader)

  pub first_seen : (t : Tree) → IsFirstOfSize problem h same' k t → IsFirstOfSize problem h same k t
  first_seen t found = record {
    leader = leads t found.leader;
    sized = found.sized;
    solves = found.solves;
    first = λ u leader. found.first u (led u leader);
  }
