-- The tests of nodes say whether they are the distinct subterms of a term, in the order of terms.
use Rattle.std.proofs.Common.{◌≡◌, ◌<◌, ◌≤◌, ◌+◌, ◌&&◌, ◌||◌, ℕ, zero, suc, Bool, true, false, List, [], ◌∷◌, map, sum, get_or, All, AllPairs, Contains, ◌⊎◌, inl, inr, refl, sym, ap, subst, arith}
use Rattle.std.specs.Bool.{Decides}
use Rattle.std.specs.List.{list_all}
use Rattle.std.specs.Ordering.{is_lt}
use Rattle.std.specs.declared.cmp.Ordering.{Ordering}
use Rattle.std.specs.declared.cmp.Ordering.TheVariants.{Less, Equal, Greater}
use Rattle.std.proofs.lemmas.Bool.{and_parts, and_from}
use Rattle.std.proofs.lemmas.List.Elements.{All-cons, All-contains_itself, All-nil, All-weaker}
use Rattle.std.proofs.lemmas.List.Folds.{list_any_at}
use Rattle.std.proofs.lemmas.List.Kept.{AllPairs-cons}
use Rattle.std.proofs.lemmas.List.Sums.{AllPass-from_list_all, list_all-from_AllPass}
use Rattle.term_core.specs.declared.tree.Tree.{Tree}
use Rattle.term_core.specs.Terms.{kids_of, size, term_cmp, AreNodesOf, IsSubterm, itself, below}
use Rattle.term_core.proofs.Marking.{child_of_subterm}
use Rattle.term_core.proofs.Order.{term_cmp-total}
use Rattle.term_core.proofs.Parts.{size_of_child}
use Rattle.deriv_core.proofs.Deciding.{is_eq-Decides}
use Rattle.answer_core.specs.Subterms.{are_subterms, has_children, is_among, is_ascending, is_child, is_same, is_used, rises}
use Rattle.answer_core.proofs.Counting.{one_below}

abbrev Before : Tree → Tree → Type 0
Before t u = term_cmp t u ≡ Less

or_parts : (a b : Bool) → (a || b) ≡ true → (a ≡ true) ⊎ (b ≡ true)
or_parts true b h = inl refl
or_parts false b h = inr h

or_left : (a b : Bool) → a ≡ true → (a || b) ≡ true
or_left a b h = ap (λ x. x || b) h

or_right : (a b : Bool) → b ≡ true → (a || b) ≡ true
or_right true b h = refl
or_right false b h = h

less_is : (o : Ordering) → is_lt o ≡ true → o ≡ Less
less_is Less h = refl
less_is Equal h = absurd cc
less_is Greater h = absurd cc

among_found : (ts : List Tree) (t : Tree) → is_among ts t ≡ true → Contains ts t
among_found [] t h = absurd cc
among_found (u ∷ us) t h = elim (or_parts (is_same u t) (is_among us t) h) [
  | inl same ↦ (zero, omega arith, (is_eq-Decides u t).0 same)
  | inr rest ↦ (let found = among_found us t rest in (suc found.0, omega (arith, found.1), found.2))
]

among_there : (ts : List Tree) (t : Tree) → Contains ts t → is_among ts t ≡ true
among_there ts t (k, h, e) = list_any_at (λ u. is_same u t) ts k t h ((is_eq-Decides (get_or ts k t) t).1 e)

all_at : (P : Tree → Type 0) (ts : List Tree) (t : Tree) → All P ts → Contains ts t → P t
all_at P ts t all (k, h, e) = subst P e (all k t h)

child_found : (ts : List Tree) (t : Tree) → is_child ts t ≡ true → (u : Tree) × Contains ts u × Contains (kids_of u) t
child_found [] t h = absurd cc
child_found (u ∷ us) t h = elim (or_parts (is_among (kids_of u) t) (is_child us t) h) [
  | inl here ↦ (u, (zero, omega arith, refl), among_found (kids_of u) t here)
  | inr rest ↦ (let found = child_found us t rest in (found.0, (suc (found.1).0, omega (arith, (found.1).1), (found.1).2), found.2))
]

child_there : (ts : List Tree) (t u : Tree) → Contains ts u → Contains (kids_of u) t → is_child ts t ≡ true
child_there ts t u (k, h, e) c = list_any_at (λ v. is_among (kids_of v) t) ts k u h (subst (λ v. is_among (kids_of v) t ≡ true) (sym e) (among_there (kids_of u) t c))

rises_all : (t : Tree) (ts : List Tree) → rises t ts ≡ true → All (Before t) ts × AllPairs Before ts
rises_all t [] h = (All-nil (Before t), λ i j d lt l. absurd (omega arith))
rises_all t (u ∷ us) h =
    let both = and_parts (is_lt (term_cmp t u)) (rises u us) h in
    let rest = rises_all u us both.1 in
    let first : Before t u = less_is (term_cmp t u) both.0 in
    (All-cons (Before t) u us first (All-weaker (Before u) (Before t) (λ v k. term_cmp-total.trans t u v first k) us rest.0), AllPairs-cons Before u us rest.0 rest.1)

pairs_rise : (t : Tree) (ts : List Tree) → AllPairs Before (t ∷ ts) → rises t ts ≡ true
pairs_rise t [] pairs = refl
pairs_rise t (u ∷ us) pairs =
    and_from (is_lt (term_cmp t u)) (rises u us) (ap is_lt (pairs zero (suc zero) t (omega arith) (omega arith)))
    (pairs_rise u us (λ i j d lt l. pairs (suc i) (suc j) d (omega arith) (omega arith)))

ascends : (ts : List Tree) → is_ascending ts ≡ true → AllPairs Before ts
ascends [] h = λ i j d lt l. absurd (omega arith)
ascends (t ∷ ts) h = let all = rises_all t ts h in AllPairs-cons Before t ts all.0 all.1

does_ascend : (ts : List Tree) → AllPairs Before ts → is_ascending ts ≡ true
does_ascend [] pairs = refl
does_ascend (t ∷ ts) pairs = pairs_rise t ts pairs

-- a subterm is the term, or a child of a subterm
parent_of : {s t : Tree} → IsSubterm s t → (s ≡ t) ⊎ ((u : Tree) × IsSubterm u t × Contains (kids_of u) s)
parent_of itself = inl refl
parent_of (below {s} {t} {kid} c r) = elim (parent_of r) [
  | inl e ↦ inr (t, itself, subst (Contains (kids_of t)) (sym e) c)
  | inr up ↦ inr (up.0, below c up.1, up.2)
]

module _ (root : Tree) (ts : List Tree) where
  closed : has_children ts ≡ true → (t kid : Tree) → Contains ts t → Contains (kids_of t) kid → Contains ts kid
  closed h t kid c k =
      let each = all_at (λ t. list_all (λ kid. is_among ts kid) (kids_of t) ≡ true) ts t (AllPass-from_list_all (λ t. list_all (λ kid. is_among ts kid) (kids_of t)) ts h) c in
      among_found ts kid (all_at (λ kid. is_among ts kid ≡ true) (kids_of t) kid (AllPass-from_list_all (λ kid. is_among ts kid) (kids_of t) each) k)

  there : has_children ts ≡ true → {s t : Tree} → IsSubterm s t → Contains ts t → Contains ts s
  there h itself c = c
  there h (below {s} {t} {kid} k r) c = there h r (closed h t kid c k)

  small : (t : Tree) → Contains ts t → size t ≤ sum (map size ts)
  small t (k, h, e) = omega (arith, one_below size ts k t h, ap size e)

  climb : is_used root ts ≡ true → (n : ℕ) (t : Tree) → Contains ts t → sum (map size ts) < n + size t → IsSubterm t root
  climb h zero t c far = absurd (omega (arith, small t c, far))
  climb h (suc n) t c far =
      let how = all_at (λ t. (is_same t root || is_child ts t) ≡ true) ts t (AllPass-from_list_all (λ t. is_same t root || is_child ts t) ts h) c in
      elim (or_parts (is_same t root) (is_child ts t) how) [
        | inl same ↦ subst (λ u. IsSubterm u root) (sym ((is_eq-Decides t root).0 same)) itself
        | inr up ↦ (let parent = child_found ts t up in
            let larger = size_of_child parent.0 t parent.2 in
            child_of_subterm t (climb h n parent.0 parent.1 (omega (arith, larger, far))) parent.2)
      ]

  sound : are_subterms root ts ≡ true → AreNodesOf root ts
  sound h =
      let first = and_parts (is_ascending ts) (is_among ts root && (has_children ts && is_used root ts)) h in
      let second = and_parts (is_among ts root) (has_children ts && is_used root ts) first.1 in
      let third = and_parts (has_children ts) (is_used root ts) second.1 in record {
        ascending = ascends ts first.0;
        subterms = λ s. (λ c. climb third.1 (suc (sum (map size ts))) s c (omega arith), λ sub. there third.0 sub (among_found ts root second.0));
      }

  complete : AreNodesOf root ts → are_subterms root ts ≡ true
  complete nodes =
      let children : has_children ts ≡ true = list_all-from_AllPass (λ t. list_all (λ kid. is_among ts kid) (kids_of t)) ts (λ k d l.
      (let t : Tree = get_or ts k d in
      let sub = (nodes.subterms t).0 (All-contains_itself ts k d l) in
      list_all-from_AllPass (λ kid. is_among ts kid) (kids_of t) (λ i e m.
      (let kid : Tree = get_or (kids_of t) i e in
      among_there ts kid ((nodes.subterms kid).1 (child_of_subterm kid sub (All-contains_itself (kids_of t) i e m))))))) in
      let used : is_used root ts ≡ true = list_all-from_AllPass (λ t. is_same t root || is_child ts t) ts (λ k d l.
      (let t : Tree = get_or ts k d in
      elim (parent_of ((nodes.subterms t).0 (All-contains_itself ts k d l))) [
        | inl e ↦ or_left (is_same t root) (is_child ts t) ((is_eq-Decides t root).1 e)
        | inr up ↦ or_right (is_same t root) (is_child ts t) (child_there ts t up.0 ((nodes.subterms up.0).1 up.1) up.2)
      ])) in
      and_from (is_ascending ts) (is_among ts root && (has_children ts && is_used root ts)) (does_ascend ts nodes.ascending)
      (and_from (is_among ts root) (has_children ts && is_used root ts) (among_there ts root ((nodes.subterms root).1 itself)) (and_from (has_children ts) (is_used root ts) children used))

  pub are_subterms-Decides : Decides (are_subterms root ts) (AreNodesOf root ts)
  are_subterms-Decides = (sound, complete)
