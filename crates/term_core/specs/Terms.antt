-- Terms: their parts, their size and their order.
use Rattle.std.specs.Prelude.{◌≡◌, ◌↔◌, ℕ, ◌+◌, List, map, sum, AllPairs, Contains, Option}
use Rattle.std.specs.Cmp.Lexicographic.{slice_cmp}
use Rattle.std.specs.Ordering.{nat_cmp, ordering_then}
use Rattle.std.specs.declared.cmp.Ordering.{Ordering}
use Rattle.std.specs.declared.cmp.Ordering.TheVariants.{Less}
use Rattle.sig_core.specs.declared.ids.ConId.{ConId}
use Rattle.sig_core.specs.declared.ids.TypeId.{TypeId}
use Rattle.sig_core.specs.Signatures.{Declarations, owner_of}
use Rattle.term_core.specs.declared.tree.Tree.{Tree, out-Tree, roll-Tree}
use Rattle.term_core.specs.declared.tree.Tree.TheOpen.{Tree-F}
use Rattle.term_core.specs.declared.tree.Tree.TheFolds.{fold-Tree}

-- the term of a constructor and its children
abbrev pub node : ConId → List Tree → Tree
node con kids = roll-Tree (record { con = con; kids = kids })

-- a term's head constructor
abbrev pub con_of : Tree → ConId
con_of t = (out-Tree t).con

-- a term's children
abbrev pub kids_of : Tree → List Tree
kids_of t = (out-Tree t).kids

-- a term's type
abbrev pub type_of : Declarations → Tree → Option TypeId
type_of sig t = owner_of sig (con_of t)

abbrev pub size_step : Tree-F ℕ → ℕ
size_step t = 1 + sum t.kids

-- how many constructors stand in a term
abbrev pub size : Tree → ℕ
size = fold-Tree ℕ size_step

-- a term's size, and how it stands to each other term
pub record Rank : Type 0 where
  pub size : ℕ
  pub against : Tree → Ordering

abbrev pub rank_step : Tree-F Rank → Rank
rank_step t = record {
  size = 1 + sum (map (λ r. r.size) t.kids);
  against = λ u. ordering_then (nat_cmp (1 + sum (map (λ r. r.size) t.kids)) (size u)) (ordering_then (nat_cmp t.con.0 (out-Tree u).con.0) (slice_cmp (λ r v. r.against v) t.kids (out-Tree u).kids));
}

abbrev pub rank : Tree → Rank
rank = fold-Tree Rank rank_step

-- by size, then by the constructor's place, then by the first child that differs
abbrev pub term_cmp : Tree → Tree → Ordering
term_cmp t u = (rank t).against u

-- s is t, or a subterm of a child of t
pub data IsSubterm : Tree → Tree → Type 0 where
  itself : {t : Tree} → IsSubterm t t
  below : {s t kid : Tree} → Contains (kids_of t) kid → IsSubterm s kid → IsSubterm s t

-- exactly the subterms of t, each before those after it
pub record AreNodesOf (t : Tree) (nodes : List Tree) : Type 0 where
  pub ascending : AllPairs (λ s u. term_cmp s u ≡ Less) nodes
  pub subterms : (s : Tree) → Contains nodes s ↔ IsSubterm s t
