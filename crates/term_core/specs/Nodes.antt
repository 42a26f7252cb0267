-- The nodes of a bank, and the terms that they stand for.
use Rattle.std.specs.Prelude.{◌≡◌, ℕ, ◌<◌, List, [], ◌∷◌, ◌++◌, length, map, All, slice_index_or}
use Rattle.sig_core.specs.declared.ids.ConId.{ConId}
use Rattle.term_core.specs.declared.ids.TermId.{TermId}
use Rattle.term_core.specs.declared.node.Node.{Node}
use Rattle.term_core.specs.declared.tree.Tree.{Tree}
use Rattle.term_core.specs.Terms.{node, size}
use Rattle.term_core.specs.Banks.{EachOnce, tree_of}

-- the term of a node, over the terms of its children
abbrev pub term_over : List Tree → Node → Tree
term_over trees n = node n.con (map (tree_of trees) n.kids)

-- the terms, and then those of the nodes, each over the terms before it
abbrev pub trees_after : List Tree → List Node → List Tree
trees_after trees [] = trees
trees_after trees (n ∷ ns) = trees_after (trees ++ term_over trees n ∷ []) ns

abbrev pub trees_of : List Node → List Tree
trees_of nodes = trees_after [] nodes

abbrev pub HasNode : ConId → List TermId → Node → Type 0
HasNode con kids n = (n.con ≡ con) × (n.kids ≡ kids)

-- children stand before their node, each node has the size of its term, and no two have one term
pub record IsBank (nodes : List Node) : Type 0 where
  pub earlier : (k : ℕ) (d : Node) → k < length nodes → All (λ kid. kid.0 < k) (slice_index_or nodes k d).kids
  pub sized : (k : ℕ) (d : Node) → k < length nodes → (slice_index_or nodes k d).size ≡ size (tree_of (trees_of nodes) (record { 0 = k }))
  pub each_once : EachOnce (trees_of nodes)
