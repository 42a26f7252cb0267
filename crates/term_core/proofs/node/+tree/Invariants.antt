use Rattle.std.proofs.Common.{◌≡◌, map, take}
use Rattle.term_core.specs.Banks.{tree_of}
use Rattle.term_core.specs.Nodes.{trees_of}
use Rattle.term_core.proofs.node.+tree.Given as goal

abbrev pub decreases-tree : goal.decreases-tree
decreases-tree l = l.id.0

abbrev pub invariant-loop-kid : goal.invariant-loop-kid
invariant-loop-kid l = l.kids ≡ map (tree_of (trees_of l.nodes)) (take l.kid-index l.kid-items)
