-- The terms that the nodes of a bank stand for.
use Rattle.std.proofs.Common.{◌≡◌, ℕ, zero, suc, ◌+◌, ◌<◌, List, [], ◌∷◌, ◌++◌, length, map, get_or, All, sym, refl, ap, ap₂, subst, ◌∙◌, arith}
use Rattle.std.proofs.lemmas.List.{get_or_append_left, get_or_push, length_push}
use Rattle.std.proofs.lemmas.List.Elements.{All-head, All-tail, All-weaker}
use Rattle.term_core.specs.declared.ids.TermId.{TermId}
use Rattle.term_core.specs.declared.node.Node.{Node}
use Rattle.term_core.specs.declared.tree.Tree.{Tree}
use Rattle.term_core.specs.Terms.{node, size}
use Rattle.term_core.specs.Banks.{tree_of, leaf}
use Rattle.term_core.specs.Nodes.{IsBank, term_over, trees_after, trees_of}

pub length-trees_after : (ts : List Tree) (ns : List Node) → length (trees_after ts ns) ≡ length ts + length ns
length-trees_after ts [] = omega arith
length-trees_after ts (n ∷ ns) = omega (arith, length-trees_after (ts ++ term_over ts n ∷ []) ns, length_push ts (term_over ts n))

pub length-trees_of : (ns : List Node) → length (trees_of ns) ≡ length ns
length-trees_of ns = omega (arith, length-trees_after [] ns)

-- the first terms stay
pub tree_of-after : (ts : List Tree) (ns : List Node) (id : TermId) → id.0 < length ts → tree_of (trees_after ts ns) id ≡ tree_of ts id
tree_of-after ts [] id h = refl
tree_of-after ts (n ∷ ns) id h =
    tree_of-after (ts ++ term_over ts n ∷ []) ns id (omega (arith, length_push ts (term_over ts n)))
    ∙ get_or_append_left ts (term_over ts n ∷ []) leaf id.0 h

pub map-tree_of-after : (ts : List Tree) (ns : List Node) (ids : List TermId) → All (λ id. id.0 < length ts) ids → map (tree_of (trees_after ts ns)) ids ≡ map (tree_of ts) ids
map-tree_of-after ts ns [] all = refl
map-tree_of-after ts ns (id ∷ ids) all =
    ap₂ (λ x xs. x ∷ xs) (tree_of-after ts ns id (All-head (λ k. k.0 < length ts) id ids all)) (map-tree_of-after ts ns ids (All-tail (λ k. k.0 < length ts) id ids all))

-- a node whose children are earlier stands for its constructor over their terms
pub tree_of-node : (ts : List Tree) (ns : List Node) (k : ℕ) (n : Node) → k < length ns → get_or ns k n ≡ n → All (λ id. id.0 < length ts + k) n.kids
    → tree_of (trees_after ts ns) (record { 0 = length ts + k }) ≡ node n.con (map (tree_of (trees_after ts ns)) n.kids)
tree_of-node ts [] k n h e all = absurd (omega arith)
tree_of-node ts (m ∷ ns) zero n h e all =
    let longer = ts ++ term_over ts m ∷ [] in
    let early : All (λ id. id.0 < length ts) n.kids = All-weaker (λ id. id.0 < length ts + zero) (λ id. id.0 < length ts) (λ id p. omega arith) n.kids all in
    let kept : All (λ id. id.0 < length longer) n.kids = All-weaker (λ id. id.0 < length ts) (λ id. id.0 < length longer) (λ id p. omega (arith, length_push ts (term_over ts m))) n.kids early in
    tree_of-after longer ns (record { 0 = length ts + zero }) (omega (arith, length_push ts (term_over ts m)))
    ∙ get_or_push ts (term_over ts m) leaf (length ts + zero) (omega arith)
    ∙ ap (term_over ts) e
    ∙ ap (node n.con) (sym (map-tree_of-after ts (m ∷ ns) n.kids early))
tree_of-node ts (m ∷ ns) (suc k) n h e all =
    let longer = ts ++ term_over ts m ∷ [] in
    let next : length longer + k ≡ length ts + suc k = omega (arith, length_push ts (term_over ts m)) in
    let early : All (λ id. id.0 < length longer + k) n.kids = All-weaker (λ id. id.0 < length ts + suc k) (λ id. id.0 < length longer + k) (λ id p. omega arith) n.kids all in
    ap (λ i. tree_of (trees_after longer ns) (record { 0 = i })) (sym next) ∙ tree_of-node longer ns k n (omega arith) e early

-- the term of a node of a bank
pub term_at : (ns : List Node) → IsBank ns → (k : ℕ) (n : Node) → k < length ns → n ≡ get_or ns k n → tree_of (trees_of ns) (record { 0 = k }) ≡ node n.con (map (tree_of (trees_of ns)) n.kids)
term_at ns bank k n h e =
    let early : All (λ id. id.0 < 0 + k) n.kids = All-weaker (λ id. id.0 < k) (λ id. id.0 < 0 + k) (λ id p. omega arith) n.kids (subst (λ m. All (λ id. id.0 < k) m.kids) (sym e) (bank.earlier k n h)) in
    ap (λ i. tree_of (trees_of ns) (record { 0 = i })) (let same : k ≡ 0 + k = omega arith in same) ∙ tree_of-node [] ns k n h (sym e) early

-- one more node
pub trees_after-push : (ts : List Tree) (ns : List Node) (n : Node) → trees_after ts (ns ++ n ∷ []) ≡ trees_after ts ns ++ term_over (trees_after ts ns) n ∷ []
trees_after-push ts [] n = refl
trees_after-push ts (m ∷ ns) n = trees_after-push (ts ++ term_over ts m ∷ []) ns n

pub trees_of-push : (ns : List Node) (n : Node) → trees_of (ns ++ n ∷ []) ≡ trees_of ns ++ term_over (trees_of ns) n ∷ []
trees_of-push = trees_after-push []

-- the size of a node is that of its term
pub size_at : (ns : List Node) → IsBank ns → (k : ℕ) (n : Node) → k < length ns → n ≡ get_or ns k n → n.size ≡ size (tree_of (trees_of ns) (record { 0 = k }))
size_at ns bank k n h e = ap (λ m. m.size) e ∙ bank.sized k n h

pub earlier_at : (ns : List Node) → IsBank ns → (k : ℕ) (n : Node) → k < length ns → n ≡ get_or ns k n → All (λ id. id.0 < k) n.kids
earlier_at ns bank k n h e = subst (λ m. All (λ id. id.0 < k) m.kids) (sym e) (bank.earlier k n h)
