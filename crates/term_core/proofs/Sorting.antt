-- The marked ids, in the order of their terms.
use Rattle.std.proofs.Common.{◌≡◌, ℕ, zero, suc, ◌+◌, ◌-◌, ◌<◌, ◌≤◌, min, Bool, true, false, List, [], ◌∷◌, length, map, get_or, All, Contains, ◌⊎◌, inl, inr, sym, refl, ap, ap₂, subst, ◌∙◌, arith}
use Rattle.std.specs.List.{swap}
use Rattle.std.specs.List.Sorted.{IsPermutation, IsSortedBy}
use Rattle.std.specs.Ordering.{is_lt}
use Rattle.std.specs.declared.cmp.Ordering.TheVariants.{Less}
use Rattle.std.proofs.lemmas.Bool.{cases_eq}
use Rattle.std.proofs.lemmas.List.{get_or-map, length-map}
use Rattle.std.proofs.lemmas.List.Edits.{length-swap, swapped_from_swap}
use Rattle.std.proofs.lemmas.List.Elements.{All-cons, All-nil, All-weaker}
use Rattle.std.proofs.lemmas.List.Sorted.{All-permutation, Contains-permutation, IsPermutation-keeps, ranks_by, sorted_far}
use Rattle.term_core.specs.declared.ids.TermId.{TermId}
use Rattle.term_core.specs.declared.node.Node.{Node}
use Rattle.term_core.specs.declared.tree.Tree.{Tree}
use Rattle.term_core.specs.Terms.{IsSubterm, term_cmp}
use Rattle.term_core.specs.Banks.{IsLive, Lists, tree_of}
use Rattle.term_core.specs.Marks.{MarkSubterms, marked_from}
use Rattle.term_core.specs.Nodes.{IsBank, trees_of}
use Rattle.term_core.proofs.Marking.{mapped, stands}
use Rattle.term_core.proofs.Order.{term_cmp-total, trichotomy}
use Rattle.term_core.proofs.Trees.{length-trees_of}

-- no two places have one element
abbrev pub Once : {X : Type 0} → List X → Type 0
Once {X} xs = (i j : ℕ) (d : X) → i < length xs → j < length xs → get_or xs i d ≡ get_or xs j d → i ≡ j

-- where a place of a list stood before two were exchanged
abbrev CameFrom : {X : Type 0} → List X → List X → X → ℕ → ℕ → ℕ → Type 0
CameFrom xs ys d a b i = ((i ≡ a) × (get_or ys i d ≡ get_or xs b d)) ⊎ ((i ≡ b) × (get_or ys i d ≡ get_or xs a d)) ⊎ ((i ≡ a → ⊥) × (i ≡ b → ⊥) × (get_or ys i d ≡ get_or xs i d))

came_from : {X : Type 0} (xs : List X) (a b : ℕ) (d : X) (i : ℕ) → a < length xs → b < length xs → CameFrom xs (swap xs a b) d a b i
came_from xs a b d i p q =
    let moved = swapped_from_swap xs (swap xs a b) a b d p q refl in
    elim (cases_eq i a) [
      | inl e ↦ inl (e, ap (λ k. get_or (swap xs a b) k d) e ∙ moved.0)
      | inr n ↦ elim (cases_eq i b) [ inl e ↦ inr (inl (e, ap (λ k. get_or (swap xs a b) k d) e ∙ moved.1)) | inr m ↦ inr (inr (n, m, moved.2 i n m)) ]
    ]

same_place : {X : Type 0} (xs ys : List X) (d : X) (a b i j : ℕ) → Once xs → a < length xs → b < length xs → i < length xs → j < length xs
    → CameFrom xs ys d a b i → CameFrom xs ys d a b j → get_or ys i d ≡ get_or ys j d → i ≡ j
same_place xs ys d a b i j once p q h k (inl u) (inl v) e = u.0 ∙ sym v.0
same_place xs ys d a b i j once p q h k (inl u) (inr (inl v)) e = let same : b ≡ a = once b a d q p (sym u.1 ∙ e ∙ v.1) in omega arith
same_place xs ys d a b i j once p q h k (inl u) (inr (inr v)) e = let same : b ≡ j = once b j d q k (sym u.1 ∙ e ∙ v.2) in absurd (v.1 (sym same))
same_place xs ys d a b i j once p q h k (inr (inl u)) (inl v) e = let same : a ≡ b = once a b d p q (sym u.1 ∙ e ∙ v.1) in omega arith
same_place xs ys d a b i j once p q h k (inr (inl u)) (inr (inl v)) e = u.0 ∙ sym v.0
same_place xs ys d a b i j once p q h k (inr (inl u)) (inr (inr v)) e = let same : a ≡ j = once a j d p k (sym u.1 ∙ e ∙ v.2) in absurd (v.0 (sym same))
same_place xs ys d a b i j once p q h k (inr (inr u)) (inl v) e = let same : i ≡ b = once i b d h q (sym u.2 ∙ e ∙ v.1) in absurd (u.1 same)
same_place xs ys d a b i j once p q h k (inr (inr u)) (inr (inl v)) e = let same : i ≡ a = once i a d h p (sym u.2 ∙ e ∙ v.1) in absurd (u.0 same)
same_place xs ys d a b i j once p q h k (inr (inr u)) (inr (inr v)) e = once i j d h k (sym u.2 ∙ e ∙ v.2)

Once-swap : {X : Type 0} (xs : List X) (a b : ℕ) → a < length xs → b < length xs → Once xs → Once (swap xs a b)
Once-swap xs a b p q once = λ i j d h k e.
    same_place xs (swap xs a b) d a b i j once p q (omega (arith, length-swap xs a b)) (omega (arith, length-swap xs a b)) (came_from xs a b d i p q) (came_from xs a b d j p q) e

Once-permutation : {X : Type 0} (xs ys : List X) → IsPermutation xs ys → Once xs → Once ys
Once-permutation xs ys moved once = IsPermutation-keeps xs Once once (λ l i j p q h. Once-swap l i j p q h) ys moved

-- what is said of each id of the places that are set
abbrev IsSet : ℕ → List Bool → TermId → Type 0
IsSet n marks id = (n ≤ id.0) × (id.0 < n + length marks) × (get_or marks (id.0 - n) false ≡ true)

later : (n : ℕ) (b : Bool) (marks : List Bool) (id : TermId) → IsSet (suc n) marks id → IsSet n (b ∷ marks) id
later n b marks id h =
    let next : id.0 - n ≡ suc (id.0 - suc n) = omega (arith, h.0) in
    (omega (arith, h.0), omega (arith, h.1), ap (λ k. get_or (b ∷ marks) k false) next ∙ h.2)

first : (n : ℕ) (marks : List Bool) → IsSet n (true ∷ marks) (record { 0 = n })
first n marks =
    let here : n - n ≡ 0 = omega arith in
    (omega arith, omega arith, ap (λ k. get_or (true ∷ marks) k false) here)

set_places : (n : ℕ) (marks : List Bool) → All (IsSet n marks) (marked_from n marks)
set_places n [] = All-nil (IsSet n [])
set_places n (true ∷ marks) =
    All-cons (IsSet n (true ∷ marks)) (record { 0 = n }) (marked_from (suc n) marks) (first n marks) (All-weaker (IsSet (suc n) marks) (IsSet n (true ∷ marks)) (λ id h. later n true marks id h) (marked_from (suc n) marks) (set_places (suc n) marks))
set_places n (false ∷ marks) = All-weaker (IsSet (suc n) marks) (IsSet n (false ∷ marks)) (λ id h. later n false marks id h) (marked_from (suc n) marks) (set_places (suc n) marks)

set_place : (n : ℕ) (marks : List Bool) (j : ℕ) → get_or marks j false ≡ true → Contains (marked_from n marks) (record { 0 = n + j })
set_place n [] j e = absurd cc
set_place n (true ∷ marks) zero e = (zero, omega arith, ap (λ k. record { 0 = k }) (let same : n ≡ n + zero = omega arith in same))
set_place n (true ∷ marks) (suc j) e =
    let there = set_place (suc n) marks j e in
    let same : record { 0 = suc n + j } ≡ record { 0 = n + suc j } = ap (λ k. record { 0 = k }) (let sums : suc n + j ≡ n + suc j = omega arith in sums) in
    subst (Contains (record { 0 = n } ∷ marked_from (suc n) marks)) same (suc there.0, omega (arith, there.1), there.2)
set_place n (false ∷ marks) zero e = absurd cc
set_place n (false ∷ marks) (suc j) e =
    subst (Contains (marked_from (suc n) marks)) (ap (λ k. record { 0 = k }) (let sums : suc n + j ≡ n + suc j = omega arith in sums)) (set_place (suc n) marks j e)

Once-marked_from : (n : ℕ) (marks : List Bool) → Once (marked_from n marks)
Once-marked_from n [] i j d h k e = absurd (omega arith)
Once-marked_from n (true ∷ marks) zero zero d h k e = refl
Once-marked_from n (true ∷ marks) zero (suc j) d h k e =
    let low = (set_places (suc n) marks j d (omega arith)).0 in absurd (let same : n ≡ (get_or (marked_from (suc n) marks) j d).0 = ap (λ x. x.0) e in omega arith)
Once-marked_from n (true ∷ marks) (suc i) zero d h k e =
    let low = (set_places (suc n) marks i d (omega arith)).0 in absurd (let same : (get_or (marked_from (suc n) marks) i d).0 ≡ n = ap (λ x. x.0) e in omega arith)
Once-marked_from n (true ∷ marks) (suc i) (suc j) d h k e = ap suc (Once-marked_from (suc n) marks i j d (omega arith) (omega arith) e)
Once-marked_from n (false ∷ marks) i j d h k e = Once-marked_from (suc n) marks i j d h k e

-- how a sort reads an id: one above the root's as the root's
abbrev pub read_as : List Tree → TermId → TermId → Tree
read_as trees id x = tree_of trees (record { 0 = min x.0 id.0 })

abbrev pub is_before : List Tree → TermId → TermId → TermId → Bool
is_before trees id x y = is_lt (term_cmp (read_as trees id x) (read_as trees id y))

module _ (ns : List Node) (bank : IsBank ns) (id : TermId) (live : id.0 < length ns) (marks : List Bool) (exact : MarkSubterms (trees_of ns) id marks) (ids : List TermId) (moved : IsPermutation (marked_from 0 marks) ids)
    (sorted : IsSortedBy (is_before (trees_of ns) id) ids) where
  places : All (IsSet 0 marks) ids
  places = All-permutation (IsSet 0 marks) (marked_from 0 marks) ids moved (set_places 0 marks)

  all_live : All (IsLive (trees_of ns)) ids
  all_live = All-weaker (IsSet 0 marks) (IsLive (trees_of ns)) (λ x h. omega (arith, h.1, exact.size, length-trees_of ns)) ids places

  read_is : (x : TermId) → IsSet 0 marks x → read_as (trees_of ns) id x ≡ tree_of (trees_of ns) x
  read_is x h = ap (λ k. tree_of (trees_of ns) (record { 0 = k })) (let same : min x.0 id.0 ≡ x.0 = omega (arith, h.1, exact.size) in same)

  before : (i j : ℕ) (d : TermId) → i < j → j < length ids → term_cmp (tree_of (trees_of ns) (get_or ids i d)) (tree_of (trees_of ns) (get_or ids j d)) ≡ Less
  before i j d h k =
      let x = get_or ids i d in
      let y = get_or ids j d in
      let earlier : i < length ids = omega arith in
      let trees = trees_of ns in
      let far : is_lt (term_cmp (read_as trees id y) (read_as trees id x)) ≡ false = sorted_far (is_before trees id) (ranks_by term_cmp-total (read_as trees id)) ids sorted i j d (omega arith) k in
      let not_after : is_lt (term_cmp (tree_of trees y) (tree_of trees x)) ≡ false = sym (ap₂ (λ s t. is_lt (term_cmp s t)) (read_is y (places j d k)) (read_is x (places i d earlier))) ∙ far in
      elim (trichotomy (tree_of trees x) (tree_of trees y)) [
        | inl less ↦ less
        | inr (inl same) ↦ absurd (let one : i ≡ j = Once-permutation (marked_from 0 marks) ids moved (Once-marked_from 0 marks) i j d earlier k (bank.each_once x y (all_live i d earlier) (all_live j d k) same) in omega arith)
        | inr (inr more) ↦ absurd (let no : is_lt Less ≡ false = sym (ap is_lt more) ∙ not_after in cc)
      ]

  none : TermId
  none = record { 0 = 0 }

  ascending : (i j : ℕ) (d : Tree) → i < j → j < length (map (tree_of (trees_of ns)) ids) → term_cmp (get_or (map (tree_of (trees_of ns)) ids) i d) (get_or (map (tree_of (trees_of ns)) ids) j d) ≡ Less
  ascending i j d h k =
      let within : j < length ids = omega (arith, length-map ids (tree_of (trees_of ns))) in
      ap₂ term_cmp (get_or-map (tree_of (trees_of ns)) ids i none d (omega arith)) (get_or-map (tree_of (trees_of ns)) ids j none d within) ∙ before i j none h within

  listed : (s : Tree) → Contains (map (tree_of (trees_of ns)) ids) s → IsSubterm s (tree_of (trees_of ns) id)
  listed s (i, h, e) =
      let within : i < length ids = omega (arith, length-map ids (tree_of (trees_of ns))) in
      let x = get_or ids i none in
      let set = places i none within in
      let offset : x.0 - 0 ≡ x.0 = omega arith in
      let inside : x.0 < length marks = omega (arith, set.1) in
      let sub = (exact.exact x.0 inside).0 (ap (λ k. get_or marks k false) (sym offset) ∙ set.2) in
      subst (λ t. IsSubterm t (tree_of (trees_of ns) id)) (sym (get_or-map (tree_of (trees_of ns)) ids i none s within) ∙ e) sub

  lists_all : (s : Tree) → IsSubterm s (tree_of (trees_of ns) id) → Contains (map (tree_of (trees_of ns)) ids) s
  lists_all s sub =
      let at = stands ns bank sub id.0 live refl in
      let x : TermId = record { 0 = at.0 } in
      let inside : at.0 < length marks = omega (arith, exact.size, at.1) in
      let on = (exact.exact at.0 inside).1 (subst (λ t. IsSubterm t (tree_of (trees_of ns) id)) (sym at.2) sub) in
      let start : record { 0 = 0 + at.0 } ≡ x = ap (λ k. record { 0 = k }) (let same : 0 + at.0 ≡ at.0 = omega arith in same) in
      let there = Contains-permutation (marked_from 0 marks) ids x moved (subst (Contains (marked_from 0 marks)) start (set_place 0 marks at.0 on)) in
      subst (Contains (map (tree_of (trees_of ns)) ids)) at.2 (mapped (trees_of ns) ids x there)

  pub lists_subterms : Lists (trees_of ns) (tree_of (trees_of ns) id) ids
  lists_subterms = record { live = all_live; nodes = record { ascending = ascending; subterms = λ s. (listed s, lists_all s) } }
