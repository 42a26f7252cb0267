use Rattle.std.proofs.Common.{◌≡◌, ◌+◌, map, sum, drop}
use Rattle.term_core.specs.Banks.{tree_of}
use Rattle.term_core.specs.Nodes.{trees_of}
use Rattle.term_core.specs.Terms.{size}
use Rattle.term_core.proofs.node.size_over.Given as goal

abbrev pub invariant-loop-kid : goal.invariant-loop-kid
invariant-loop-kid l =
    l.total + sum (map size (map (tree_of (trees_of l.nodes)) (drop l.kid-index l.kids))) ≡ 1 + sum (map size (map (tree_of (trees_of l.nodes)) l.kids))
