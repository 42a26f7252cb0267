-- The order of terms is a strict total one.
use Rattle.std.proofs.Common.{◌≡◌, ◌+◌, ◌<◌, ℕ, List, [], ◌∷◌, map, sum, All, refl, sym, ap, ap₂, ◌∙◌, subst, ◌⊎◌, inl, inr, rules}
use Rattle.std.specs.Cmp.{IsTotalOrder}
use Rattle.std.specs.Cmp.Lexicographic.{slice_cmp}
use Rattle.std.specs.Ordering.{nat_cmp, ordering_then, ordering_reverse, MatchOrdering}
use Rattle.std.specs.declared.cmp.Ordering.{Ordering}
use Rattle.std.specs.declared.cmp.Ordering.TheVariants.{Less, Equal, Greater}
use Rattle.std.proofs.lemmas.Cmp.{nat_cmp_total, ranked}
use Rattle.std.proofs.lemmas.List.Elements.{All-head, All-tail}
use Rattle.sig_core.specs.declared.ids.ConId.{ConId}
use Rattle.term_core.specs.declared.tree.Tree.{Tree, the_lemmas, out-Tree}
use Rattle.term_core.specs.declared.tree.Tree.TheFolds.{fold-roll-Tree}
use Rattle.term_core.specs.Terms.{node, Rank, term_cmp, size, size_step, rank, rank_step}
use Rattle.term_core.proofs.Induction.{by_children}

out-node : (con : ConId) (kids : List Tree) → out-Tree (node con kids) ≡ record { con = con; kids = kids }
out-node con kids = search (rules, the_lemmas)

pub size-node : (con : ConId) (kids : List Tree) → size (node con kids) ≡ 1 + sum (map size kids)
size-node con kids = fold-roll-Tree ℕ size_step (record { con = con; kids = kids })

rank-node : (con : ConId) (kids : List Tree) → rank (node con kids) ≡ rank_step (record { con = con; kids = map rank kids })
rank-node con kids = fold-roll-Tree Rank rank_step (record { con = con; kids = kids })

rank_sizes : (kids : List Tree) → All (λ t. (rank t).size ≡ size t) kids → map (λ r. r.size) (map rank kids) ≡ map size kids
rank_sizes [] all = refl
rank_sizes (t ∷ kids) all = ap₂ (λ n ns. n ∷ ns) (All-head (λ t. (rank t).size ≡ size t) t kids all) (rank_sizes kids (All-tail (λ t. (rank t).size ≡ size t) t kids all))

rank-size : (t : Tree) → (rank t).size ≡ size t
rank-size = by_children (λ t. (rank t).size ≡ size t) (λ con kids all.
    ap (λ r. r.size) (rank-node con kids) ∙ ap (λ ns. 1 + sum ns) (rank_sizes kids all) ∙ sym (size-node con kids))

slice_cmp-rank : (ks ls : List Tree) → slice_cmp (λ r v. r.against v) (map rank ks) ls ≡ slice_cmp term_cmp ks ls
slice_cmp-rank [] [] = refl
slice_cmp-rank [] (l ∷ ls) = refl
slice_cmp-rank (k ∷ ks) [] = refl
slice_cmp-rank (k ∷ ks) (l ∷ ls) = ap (ordering_then (term_cmp k l)) (slice_cmp-rank ks ls)

-- by size, then by constructor, then by the children from the left
pub term_cmp-node : (c d : ConId) (ks ls : List Tree) →
    term_cmp (node c ks) (node d ls) ≡ ordering_then (nat_cmp (size (node c ks)) (size (node d ls))) (ordering_then (nat_cmp c.0 d.0) (slice_cmp term_cmp ks ls))
term_cmp-node c d ks ls =
    ap (λ r. r.against (node d ls)) (rank-node c ks)
    ∙ ap (λ n. ordering_then (nat_cmp n (size (node d ls))) (ordering_then (nat_cmp c.0 (out-Tree (node d ls)).con.0) (slice_cmp (λ r v. r.against v) (map rank ks) (out-Tree (node d ls)).kids)))
    (sym (ap (λ r. r.size) (rank-node c ks)) ∙ rank-size (node c ks))
    ∙ ap (λ o. ordering_then (nat_cmp (size (node c ks)) (size (node d ls))) (ordering_then (nat_cmp c.0 o.con.0) (slice_cmp (λ r v. r.against v) (map rank ks) o.kids))) (out-node d ls)
    ∙ ap (λ o. ordering_then (nat_cmp (size (node c ks)) (size (node d ls))) (ordering_then (nat_cmp c.0 d.0) o)) (slice_cmp-rank ks ls)

reverse_then : (a b : Ordering) → ordering_reverse (ordering_then a b) ≡ ordering_then (ordering_reverse a) (ordering_reverse b)
reverse_then Less b = refl
reverse_then Equal b = refl
reverse_then Greater b = refl

abbrev Reverses : Tree → Type 0
Reverses t = (u : Tree) → term_cmp t u ≡ ordering_reverse (term_cmp u t)

lists_reverse : (ks : List Tree) → All Reverses ks → (ls : List Tree) → slice_cmp term_cmp ks ls ≡ ordering_reverse (slice_cmp term_cmp ls ks)
lists_reverse [] all [] = refl
lists_reverse [] all (l ∷ ls) = refl
lists_reverse (k ∷ ks) all [] = refl
lists_reverse (k ∷ ks) all (l ∷ ls) =
    ap₂ ordering_then (All-head Reverses k ks all l) (lists_reverse ks (All-tail Reverses k ks all) ls) ∙ sym (reverse_then (term_cmp l k) (slice_cmp term_cmp ls ks))

pub reverses : (t : Tree) → Reverses t
reverses = by_children Reverses (λ c ks all. by_children (λ u. term_cmp (node c ks) u ≡ ordering_reverse (term_cmp u (node c ks))) (λ d ls _.
    term_cmp-node c d ks ls
    ∙ ap₂ ordering_then (nat_cmp_total.antisymm (size (node c ks)) (size (node d ls))) (ap₂ ordering_then (nat_cmp_total.antisymm c.0 d.0) (lists_reverse ks all ls) ∙ sym (reverse_then (nat_cmp d.0 c.0) (slice_cmp term_cmp ls ks)))
    ∙ sym (reverse_then (nat_cmp (size (node d ls)) (size (node c ks))) (ordering_then (nat_cmp d.0 c.0) (slice_cmp term_cmp ls ks)))
    ∙ sym (ap ordering_reverse (term_cmp-node d c ls ks))))

then_equal : (a b : Ordering) → ordering_then a b ≡ Equal → (a ≡ Equal) × (b ≡ Equal)
then_equal Less b e = absurd cc
then_equal Equal b e = (refl, e)
then_equal Greater b e = absurd cc

nat_equal : (m n : ℕ) → nat_cmp m n ≡ Equal → m ≡ n
nat_equal m n e = subst (λ o. MatchOrdering o (m < n) (m ≡ n) (n < m)) e (ranked m n (nat_cmp m n) refl)

abbrev Same : Tree → Type 0
Same t = (u : Tree) → term_cmp t u ≡ Equal → t ≡ u

lists_same : (ks : List Tree) → All Same ks → (ls : List Tree) → slice_cmp term_cmp ks ls ≡ Equal → ks ≡ ls
lists_same [] all [] e = refl
lists_same [] all (l ∷ ls) e = absurd cc
lists_same (k ∷ ks) all [] e = absurd cc
lists_same (k ∷ ks) all (l ∷ ls) e =
    let both = then_equal (term_cmp k l) (slice_cmp term_cmp ks ls) e in
    ap₂ (λ x xs. x ∷ xs) (All-head Same k ks all l both.0) (lists_same ks (All-tail Same k ks all) ls both.1)

-- only a term itself is as great
pub same_term : (t : Tree) → Same t
same_term = by_children Same (λ c ks all. by_children (λ u. term_cmp (node c ks) u ≡ Equal → node c ks ≡ u) (λ d ls _ e.
    (let outer = then_equal (nat_cmp (size (node c ks)) (size (node d ls))) (ordering_then (nat_cmp c.0 d.0) (slice_cmp term_cmp ks ls)) (sym (term_cmp-node c d ks ls) ∙ e) in
    let inner = then_equal (nat_cmp c.0 d.0) (slice_cmp term_cmp ks ls) outer.1 in
    ap₂ (λ n kids. node (record { 0 = n }) kids) (nat_equal c.0 d.0 inner.0) (lists_same ks all ls inner.1))))

-- what two comparisons in a row say of the third
abbrev Composed : Ordering → Ordering → Ordering → Type 0
Composed Less Less c = c ≡ Less
Composed Less Equal c = c ≡ Less
Composed Less Greater c = Unit {0}
Composed Equal Less c = c ≡ Less
Composed Equal Equal c = c ≡ Equal
Composed Equal Greater c = Unit {0}
Composed Greater b c = Unit {0}

then_composed : (a b c x y z : Ordering) → Composed a b c → Composed x y z → Composed (ordering_then a x) (ordering_then b y) (ordering_then c z)
then_composed Less Less c x y z h k = ap (λ o. ordering_then o z) h
then_composed Less Equal c x Less z h k = ap (λ o. ordering_then o z) h
then_composed Less Equal c x Equal z h k = ap (λ o. ordering_then o z) h
then_composed Less Equal c x Greater z h k = tt
then_composed Less Greater c x y z h k = tt
then_composed Equal Less c Less y z h k = ap (λ o. ordering_then o z) h
then_composed Equal Less c Equal y z h k = ap (λ o. ordering_then o z) h
then_composed Equal Less c Greater y z h k = tt
then_composed Equal Equal c x y z h k = subst (λ o. Composed x y (ordering_then o z)) (sym h) k
then_composed Equal Greater c Less y z h k = tt
then_composed Equal Greater c Equal y z h k = tt
then_composed Equal Greater c Greater y z h k = tt
then_composed Greater b c x y z h k = tt

nat_composed_at : (m n k : ℕ) (a b : Ordering) → nat_cmp m n ≡ a → nat_cmp n k ≡ b → Composed a b (nat_cmp m k)
nat_composed_at m n k Less Less e f = nat_cmp_total.trans m n k e f
nat_composed_at m n k Less Equal e f = ap (nat_cmp m) (sym (nat_equal n k f)) ∙ e
nat_composed_at m n k Less Greater e f = tt
nat_composed_at m n k Equal Less e f = nat_cmp_total.congr m n k e ∙ f
nat_composed_at m n k Equal Equal e f = nat_cmp_total.congr m n k e ∙ f
nat_composed_at m n k Equal Greater e f = tt
nat_composed_at m n k Greater b e f = tt

nat_composed : (m n k : ℕ) → Composed (nat_cmp m n) (nat_cmp n k) (nat_cmp m k)
nat_composed m n k = nat_composed_at m n k (nat_cmp m n) (nat_cmp n k) refl refl

less_composed : (o : Ordering) → Composed Less o Less
less_composed Less = refl
less_composed Equal = refl
less_composed Greater = tt

composed_greater : (o : Ordering) → Composed o Greater Greater
composed_greater Less = tt
composed_greater Equal = tt
composed_greater Greater = tt

abbrev Composes : Tree → Type 0
Composes t = (u v : Tree) → Composed (term_cmp t u) (term_cmp u v) (term_cmp t v)

lists_composed : (ks : List Tree) → All Composes ks → (ls ms : List Tree) → Composed (slice_cmp term_cmp ks ls) (slice_cmp term_cmp ls ms) (slice_cmp term_cmp ks ms)
lists_composed [] all [] [] = refl
lists_composed [] all [] (m ∷ ms) = refl
lists_composed [] all (l ∷ ls) [] = tt
lists_composed [] all (l ∷ ls) (m ∷ ms) = less_composed (slice_cmp term_cmp (l ∷ ls) (m ∷ ms))
lists_composed (k ∷ ks) all [] ms = tt
lists_composed (k ∷ ks) all (l ∷ ls) [] = composed_greater (slice_cmp term_cmp (k ∷ ks) (l ∷ ls))
lists_composed (k ∷ ks) all (l ∷ ls) (m ∷ ms) =
    then_composed (term_cmp k l) (term_cmp l m) (term_cmp k m) (slice_cmp term_cmp ks ls) (slice_cmp term_cmp ls ms) (slice_cmp term_cmp ks ms)
    (All-head Composes k ks all l m) (lists_composed ks (All-tail Composes k ks all) ls ms)

composes : (t : Tree) → Composes t
composes = by_children Composes (λ c ks all. by_children (λ u. (v : Tree) → Composed (term_cmp (node c ks) u) (term_cmp u v) (term_cmp (node c ks) v)) (λ d ls _.
    by_children (λ v. Composed (term_cmp (node c ks) (node d ls)) (term_cmp (node d ls) v) (term_cmp (node c ks) v)) (λ e ms _.
    rw (term_cmp-node c d ks ls, term_cmp-node d e ls ms, term_cmp-node c e ks ms)
    (then_composed (nat_cmp (size (node c ks)) (size (node d ls))) (nat_cmp (size (node d ls)) (size (node e ms))) (nat_cmp (size (node c ks)) (size (node e ms)))
    (ordering_then (nat_cmp c.0 d.0) (slice_cmp term_cmp ks ls)) (ordering_then (nat_cmp d.0 e.0) (slice_cmp term_cmp ls ms)) (ordering_then (nat_cmp c.0 e.0) (slice_cmp term_cmp ks ms))
    (nat_composed (size (node c ks)) (size (node d ls)) (size (node e ms)))
    (then_composed (nat_cmp c.0 d.0) (nat_cmp d.0 e.0) (nat_cmp c.0 e.0) (slice_cmp term_cmp ks ls) (slice_cmp term_cmp ls ms) (slice_cmp term_cmp ks ms)
    (nat_composed c.0 d.0 e.0) (lists_composed ks all ls ms))))))

pub term_cmp-total : IsTotalOrder term_cmp
term_cmp-total = record {
  antisymm = reverses;
  trans = λ t u v less more. (let h : Composed Less Less (term_cmp t v) = subst (λ o. Composed o Less (term_cmp t v)) less (subst (λ o. Composed (term_cmp t u) o (term_cmp t v)) more (composes t u v)) in h);
  congr = λ t u v e. ap (λ w. term_cmp w v) (same_term t u e);
}

either : (t u : Tree) (o : Ordering) → term_cmp t u ≡ o → (term_cmp t u ≡ Less) ⊎ (t ≡ u) ⊎ (term_cmp u t ≡ Less)
either t u Less e = inl e
either t u Equal e = inr (inl (same_term t u e))
either t u Greater e = inr (inr (reverses u t ∙ ap ordering_reverse e))

-- of two terms one is before the other, or they are the same
pub trichotomy : (t u : Tree) → (term_cmp t u ≡ Less) ⊎ (t ≡ u) ⊎ (term_cmp u t ≡ Less)
trichotomy t u = either t u (term_cmp t u) refl
