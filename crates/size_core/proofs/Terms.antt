-- Lists of ids as lists of terms.
use Rattle.std.proofs.Common.{◌≡◌, ℕ, ◌<◌, List, length, map, get_or, sym, ap₂, ◌∙◌, arith}
use Rattle.std.specs.declared.cmp.Ordering.TheVariants.{Less}
use Rattle.std.proofs.lemmas.List.{get_or-map, length-map}
use Rattle.term_core.specs.declared.ids.TermId.{TermId}
use Rattle.term_core.specs.declared.tree.Tree.{Tree}
use Rattle.term_core.specs.Banks.{tree_of}
use Rattle.term_core.specs.Terms.{term_cmp}
use Rattle.size_core.specs.Lists.{AreOfSize, IsAscending, IsListOf}

-- an ascending list of ids, as one of terms
pub ascending_terms : (bank : List Tree) (ids : List TermId) → IsAscending bank ids → (i j : ℕ) (d : Tree) → i < j → j < length (map (tree_of bank) ids) → term_cmp (get_or (map (tree_of bank) ids) i d) (get_or (map (tree_of bank) ids) j d) ≡ Less
ascending_terms bank ids up i j d h l =
    let within : j < length ids = omega (arith, length-map ids (tree_of bank)) in
    let none : TermId = record { 0 = 0 } in
    ap₂ term_cmp (get_or-map (tree_of bank) ids i none d (omega arith)) (get_or-map (tree_of bank) ids j none d within) ∙ up i j none h within

-- and back
pub ascending_ids : (bank : List Tree) (ids : List TermId) → ((i j : ℕ) (d : Tree) → i < j → j < length (map (tree_of bank) ids) → term_cmp (get_or (map (tree_of bank) ids) i d) (get_or (map (tree_of bank) ids) j d) ≡ Less) → IsAscending bank ids
ascending_ids bank ids up i j d h l =
    let t = tree_of bank d in
    sym (ap₂ term_cmp (get_or-map (tree_of bank) ids i d t (omega arith)) (get_or-map (tree_of bank) ids j d t l)) ∙ up i j t h (omega (arith, length-map ids (tree_of bank)))

-- a list of ids of a size lists the terms of that size
pub list_terms : (bank : List Tree) (P : Tree → Type 0) (k : ℕ) (ids : List TermId) → IsListOf bank P k ids → AreOfSize P k (map (tree_of bank) ids)
list_terms bank P k ids is = record { ascending = ascending_terms bank ids is.ascending; exact = is.exact }
