-- Two ascending lists of the same terms are one.
use Rattle.std.proofs.Common.{◌≡◌, zero, suc, ◌<◌, List, [], ◌∷◌, All, AllPairs, Contains, ◌⊎◌, inl, inr, sym, refl, ap₂, subst, ◌∙◌, arith}
use Rattle.std.specs.declared.cmp.Ordering.TheVariants.{Less, Equal}
use Rattle.std.proofs.lemmas.List.Elements.{All-contains}
use Rattle.term_core.specs.declared.tree.Tree.{Tree}
use Rattle.term_core.specs.Terms.{AreNodesOf, term_cmp}
use Rattle.term_core.proofs.Compare.{itself_equal}
use Rattle.term_core.proofs.Order.{term_cmp-total}

abbrev Before : Tree → Tree → Type 0
Before s u = term_cmp s u ≡ Less

never_itself : (s : Tree) → Before s s → ⊥
never_itself s h = let e : Less ≡ Equal = sym h ∙ itself_equal s in cc

one_way : (s u : Tree) → Before s u → Before u s → ⊥
one_way s u h k = never_itself s (term_cmp-total.trans s u s h k)

first_before : (n : Tree) (ns : List Tree) → AllPairs Before (n ∷ ns) → All (Before n) ns
first_before n ns pairs k d h = pairs zero (suc k) d (omega arith) (omega arith)

others_rise : (n : Tree) (ns : List Tree) → AllPairs Before (n ∷ ns) → AllPairs Before ns
others_rise n ns pairs i j d h k = pairs (suc i) (suc j) d (omega arith) (omega arith)

first_or_other : (n : Tree) (ns : List Tree) (s : Tree) → Contains (n ∷ ns) s → (n ≡ s) ⊎ Contains ns s
first_or_other n ns s (zero, h, e) = inl e
first_or_other n ns s (suc k, h, e) = inr (k, omega arith, e)

is_first : (n : Tree) (ns : List Tree) → Contains (n ∷ ns) n
is_first n ns = (zero, omega arith, refl)

is_other : (n : Tree) (ns : List Tree) (s : Tree) → Contains ns s → Contains (n ∷ ns) s
is_other n ns s (k, h, e) = (suc k, omega arith, e)

same_first : (n m : Tree) (ns ms : List Tree) → All (Before n) ns → All (Before m) ms → Contains (m ∷ ms) n → Contains (n ∷ ns) m → n ≡ m
same_first n m ns ms p q h k =
    elim (first_or_other m ms n h) [
      | inl e ↦ sym e
      | inr c ↦ elim (first_or_other n ns m k) [ inl e ↦ e | inr d ↦ absurd (one_way m n (All-contains (Before m) ms n q c) (All-contains (Before n) ns m p d)) ]
    ]

in_others : (n m : Tree) (ns ms : List Tree) → n ≡ m → All (Before n) ns → (s : Tree) → Contains ns s → Contains (m ∷ ms) s → Contains ms s
in_others n m ns ms same p s here there =
    elim (first_or_other m ms s there) [
      | inl e ↦ absurd (never_itself s (subst (λ x. Before x s) (same ∙ e) (All-contains (Before n) ns s p here)))
      | inr c ↦ c
    ]

one_list : (ns ms : List Tree) → AllPairs Before ns → AllPairs Before ms → ((s : Tree) → Contains ns s → Contains ms s) → ((s : Tree) → Contains ms s → Contains ns s) → ns ≡ ms
one_list [] [] p q to from = refl
one_list [] (m ∷ ms) p q to from = absurd (let h = from m (is_first m ms) in let none : h.0 < 0 = h.1 in omega arith)
one_list (n ∷ ns) [] p q to from = absurd (let h = to n (is_first n ns) in let none : h.0 < 0 = h.1 in omega arith)
one_list (n ∷ ns) (m ∷ ms) p q to from =
    let before_ns = first_before n ns p in
    let before_ms = first_before m ms q in
    let same : n ≡ m = same_first n m ns ms before_ns before_ms (to n (is_first n ns)) (from m (is_first m ms)) in
    ap₂ (λ x xs. x ∷ xs) same
    (one_list ns ms (others_rise n ns p) (others_rise m ms q)
    (λ s h. in_others n m ns ms same before_ns s h (to s (is_other n ns s h)))
    (λ s h. in_others m n ms ns (sym same) before_ms s h (from s (is_other m ms s h))))

pub one_list_of : (t : Tree) (ns ms : List Tree) → AreNodesOf t ns → AreNodesOf t ms → ns ≡ ms
one_list_of t ns ms a b = one_list ns ms a.ascending b.ascending (λ s h. (b.subterms s).1 ((a.subterms s).0 h)) (λ s h. (a.subterms s).1 ((b.subterms s).0 h))
