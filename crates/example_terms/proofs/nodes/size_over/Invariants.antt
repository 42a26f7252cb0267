use Rattle.std.proofs.Common.{◌≡◌, ◌+◌, ◌<◌, map, sum, take, All}
use Rattle.term_core.specs.Banks.{IsLive, tree_of}
use Rattle.term_core.specs.Terms.{size}
use Rattle.example_terms.proofs.nodes.size_over.Given as goal

-- the children met so far are live, and their total size is small
abbrev pub invariant-loop-kid : goal.invariant-loop-kid
invariant-loop-kid l = record {
  live : All (IsLive l.bank) (take l.kid-index l.kids);
  total : l.size ≡ 1 + sum (map size (map (tree_of l.bank) (take l.kid-index l.kids)));
  small : l.size < 2000;
}
