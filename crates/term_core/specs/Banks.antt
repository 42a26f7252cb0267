-- A bank of terms, seen as the list of its terms: the id k is the number of the k-th.
use Rattle.std.specs.Prelude.{◌≡◌, ◌<◌, ◌≤◌, List, [], length, map, All, slice_index_or}
use Rattle.term_core.specs.declared.ids.TermId.{TermId}
use Rattle.term_core.specs.declared.tree.Tree.{Tree}
use Rattle.term_core.specs.Terms.{node, AreNodesOf}

-- what an id that is not live stands for: it plays no part
abbrev pub leaf : Tree
leaf = node (record { 0 = 0 }) []

-- the term that a live id stands for
abbrev pub tree_of : List Tree → TermId → Tree
tree_of bank id = slice_index_or bank id.0 leaf

abbrev pub IsLive : List Tree → TermId → Type 0
IsLive bank id = id.0 < length bank

-- live ids that stand for one term are equal
abbrev pub EachOnce : List Tree → Type 0
EachOnce bank = (a b : TermId) → IsLive bank a → IsLive bank b → tree_of bank a ≡ tree_of bank b → a ≡ b

-- the live ids of the old bank are live in the new one, and stand for the same terms
pub record Keeps (old new : List Tree) : Type 0 where
  pub live : length old ≤ length new
  pub same : (id : TermId) → IsLive old id → tree_of new id ≡ tree_of old id

-- live ids of exactly the subterms of t, in the order of terms
pub record Lists (bank : List Tree) (t : Tree) (ids : List TermId) : Type 0 where
  pub live : All (IsLive bank) ids
  pub nodes : AreNodesOf t (map (tree_of bank) ids)
