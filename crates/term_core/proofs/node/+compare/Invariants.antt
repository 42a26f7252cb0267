use Rattle.std.proofs.Common.{◌≡◌, map, drop}
use Rattle.std.specs.Cmp.Lexicographic.{slice_cmp}
use Rattle.term_core.specs.Banks.{tree_of}
use Rattle.term_core.specs.Nodes.{trees_of}
use Rattle.term_core.specs.Terms.{term_cmp}
use Rattle.term_core.proofs.node.+compare.Given as goal

abbrev pub decreases-compare : goal.decreases-compare
decreases-compare l = l.a.0

abbrev pub invariant-loop-i : goal.invariant-loop-i
invariant-loop-i l =
    let terms = map (tree_of (trees_of l.nodes)) in
    slice_cmp term_cmp (terms (drop l.i l.lefts)) (terms (drop l.i l.rights)) ≡ slice_cmp term_cmp (terms l.lefts) (terms l.rights)
