-- What a read of a bank's nodes says of its terms.
use Rattle.std.proofs.Common.{◌≡◌, ℕ, ◌<◌, List, length, map, get_or, All, Contains, sym, ap, ap₂, subst, ◌∙◌, arith}
use Rattle.std.proofs.lemmas.List.{get_or_default}
use Rattle.sig_core.specs.declared.ids.ConId.{ConId}
use Rattle.term_core.specs.declared.ids.TermId.{TermId}
use Rattle.term_core.specs.declared.node.Node.{Node}
use Rattle.term_core.specs.declared.tree.Tree.{Tree}
use Rattle.term_core.specs.Terms.{node, con_of, kids_of, size}
use Rattle.term_core.specs.Banks.{leaf, tree_of}
use Rattle.term_core.specs.Nodes.{HasNode, IsBank, trees_of}
use Rattle.term_core.proofs.Parts.{con_of-node, kids_of-node}
use Rattle.term_core.proofs.Trees.{length-trees_of, term_at, earlier_at, size_at}

pub live_in : (ns : List Node) (bank : List Tree) → trees_of ns ≡ bank → (k : ℕ) → k < length bank → k < length ns
live_in ns bank e k h = omega (arith, ap length e, length-trees_of ns)

pub live_read : (ns read : List Node) (bank : List Tree) → trees_of ns ≡ bank → read ≡ ns → (k : ℕ) → k < length bank → k < length read
live_read ns read bank e same k h = omega (arith, ap length e, ap length same, length-trees_of ns)

module _ (ns : List Node) (bank : IsBank ns) (id : TermId) (n : Node) (h : id.0 < length ns) (e : n ≡ get_or ns id.0 n) where
  pub con_read : n.con ≡ con_of (tree_of (trees_of ns) id)
  con_read = sym (ap con_of (term_at ns bank id.0 n h e) ∙ con_of-node n.con (map (tree_of (trees_of ns)) n.kids))

  pub kids_read : kids_of (tree_of (trees_of ns) id) ≡ map (tree_of (trees_of ns)) n.kids
  kids_read = ap kids_of (term_at ns bank id.0 n h e) ∙ kids_of-node n.con (map (tree_of (trees_of ns)) n.kids)

  pub size_read : n.size ≡ size (tree_of (trees_of ns) id)
  size_read = size_at ns bank id.0 n h e

  pub term_read : tree_of (trees_of ns) id ≡ node (con_of (tree_of (trees_of ns) id)) (map (tree_of (trees_of ns)) n.kids)
  term_read = term_at ns bank id.0 n h e ∙ ap (λ con. node con (map (tree_of (trees_of ns)) n.kids)) con_read

-- the same of a read of a copy of the nodes
module _ (ns read : List Node) (bank : List Tree) (inv : IsBank ns) (view : trees_of ns ≡ bank) (same : read ≡ ns) (id : TermId) (d : Node) (h : id.0 < length bank) where
  read_is : get_or read id.0 d ≡ get_or ns id.0 (get_or read id.0 d)
  read_is = ap (λ xs. get_or xs id.0 d) same ∙ get_or_default ns id.0 d (get_or read id.0 d) (live_in ns bank view id.0 h)

  pub con_in : (get_or read id.0 d).con ≡ con_of (tree_of bank id)
  con_in = con_read ns inv id (get_or read id.0 d) (live_in ns bank view id.0 h) read_is ∙ ap (λ ts. con_of (tree_of ts id)) view

  pub size_in : (get_or read id.0 d).size ≡ size (tree_of bank id)
  size_in = size_read ns inv id (get_or read id.0 d) (live_in ns bank view id.0 h) read_is ∙ ap (λ ts. size (tree_of ts id)) view

  pub lower_in : All (λ kid. kid.0 < id.0) (get_or read id.0 d).kids
  lower_in = earlier_at ns inv id.0 (get_or read id.0 d) (live_in ns bank view id.0 h) read_is

  pub term_in : tree_of bank id ≡ node (con_of (tree_of bank id)) (map (tree_of bank) (get_or read id.0 d).kids)
  term_in = subst (λ ts. tree_of ts id ≡ node (con_of (tree_of ts id)) (map (tree_of ts) (get_or read id.0 d).kids)) view
      (term_read ns inv id (get_or read id.0 d) (live_in ns bank view id.0 h) read_is)

-- a place at which a node was found
module _ (ns read : List Node) (bank : List Tree) (inv : IsBank ns) (view : trees_of ns ≡ bank) (same : read ≡ ns) (con : ConId) (kids : List TermId) (k : ℕ) (within : k < length read)
    (has : (d : Node) → HasNode con kids (get_or read k d)) where
  pub found_live : k < length bank
  found_live = omega (arith, ap length view, ap length same, length-trees_of ns)

  pub found_term : tree_of bank (record { 0 = k }) ≡ node con (map (tree_of bank) kids)
  found_term =
      let d : Node = record { con = con; kids = kids; size = 0 } in
      let id : TermId = record { 0 = k } in
      term_in ns read bank inv view same id d found_live
      ∙ ap₂ (λ c ids. node c (map (tree_of bank) ids)) (sym (con_in ns read bank inv view same id d found_live) ∙ (has d).0) (has d).1

  pub found_there : Contains bank (node con (map (tree_of bank) kids))
  found_there = (k, found_live, get_or_default bank k (node con (map (tree_of bank) kids)) leaf found_live ∙ found_term)
