-- The laws of the order of terms.
use Rattle.std.specs.Prelude.{◌≡◌, ◌+◌, List, map, sum, Contains}
use Rattle.std.specs.Cmp.Lexicographic.{slice_cmp}
use Rattle.std.specs.Ordering.{nat_cmp, ordering_then}
use Rattle.std.specs.declared.cmp.Ordering.TheVariants.{Less, Equal}
use Rattle.sig_core.specs.declared.ids.ConId.{ConId}
use Rattle.term_core.specs.declared.tree.Tree.{Tree}
use Rattle.term_core.specs.Terms.{node, kids_of, size, term_cmp, AreNodesOf}

-- only a term itself compares as equal to it
abbrev pub SameTerm : Type 0
SameTerm = (t u : Tree) → term_cmp t u ≡ Equal → t ≡ u

-- by size, then by the constructor's place, then by the first child that differs
abbrev pub ByParts : Type 0
ByParts = (c d : ConId) (ks ls : List Tree) →
    term_cmp (node c ks) (node d ls) ≡ ordering_then (nat_cmp (size (node c ks)) (size (node d ls))) (ordering_then (nat_cmp c.0 d.0) (slice_cmp term_cmp ks ls))

abbrev pub SizeOfNode : Type 0
SizeOfNode = (c : ConId) (ks : List Tree) → size (node c ks) ≡ 1 + sum (map size ks)

abbrev pub ChildrenFirst : Type 0
ChildrenFirst = (t kid : Tree) → Contains (kids_of t) kid → term_cmp kid t ≡ Less

-- two lists of the distinct subterms of a term, in order, are one
abbrev pub OneList : Type 0
OneList = (t : Tree) (ns ms : List Tree) → AreNodesOf t ns → AreNodesOf t ms → ns ≡ ms
