-- The form of a node whose numbers are good.
use Rattle.std.proofs.Common.{◌≡◌, ℕ, ◌+◌, ◌-◌, ◌<◌, ◌≤◌, ◌^◌, min, not, nat_lt, true, false, Some, All, slice_get, List, [], ◌∷◌, ◌++◌, map, sum, drop, length, sym, ap, ap₂, ◌∙◌, arith}
use Rattle.std.specs.List.{flat_map}
use Rattle.std.proofs.lemmas.Bool.Decides.{nat_tests}
use Rattle.std.proofs.lemmas.List.{length-map}
use Rattle.sig_core.specs.declared.ids.ConId.{ConId}
use Rattle.sig_core.specs.Signatures.{Declarations}
use Rattle.sexpr_core.specs.declared.form.Sexpr.{Sexpr}
use Rattle.sexpr_core.specs.Access.{place_of, item_of, parts_of}
use Rattle.term_core.specs.declared.ids.TermId.{TermId}
use Rattle.term_core.specs.declared.tree.Tree.{Tree}
use Rattle.term_core.specs.Banks.{IsLive, tree_of}
use Rattle.term_core.specs.Terms.{node, size}
use Rattle.term_core.proofs.Order.{size-node}
use Rattle.answer_core.specs.Drafts.{IsNode}
use Rattle.answer_core.specs.Names.{constructor_at}
use Rattle.answer_core.specs.Numbers.{number_of}
use Rattle.answer_core.specs.Readings.{constructor_or, else_bad, fault, first_fault, node_at, node_misnumbered, node_of, not_below, not_the_number}
use Rattle.answer_core.specs.Shapes.{bad_if}
use Rattle.answer_core.proofs.Banking.{all_found, trees_found}

module _ (sig : Declarations) (nodes : List Tree) (form : Sexpr) where
  numbers_good : not_the_number (length nodes) (item_of 1 form) ≡ [] → flat_map (not_below (number_of (item_of 1 form))) (drop 3 (parts_of form)) ≡ []
      → node_misnumbered sig nodes form ≡ bad_if (not (nat_lt (size (node_of sig nodes form)) (2 ^ 32))) form
  numbers_good own kids = ap₂ (λ xs ys. else_bad (xs ++ ys) (bad_if (not (nat_lt (size (node_of sig nodes form)) (2 ^ 32))) form)) own kids

  pub node_good : not_the_number (length nodes) (item_of 1 form) ≡ [] → flat_map (not_below (number_of (item_of 1 form))) (drop 3 (parts_of form)) ≡ []
      → size (node_of sig nodes form) < 2 ^ 32 → node_misnumbered sig nodes form ≡ []
  node_good own kids small =
      let test : nat_lt (size (node_of sig nodes form)) (2 ^ 32) ≡ true = grind (arith, nat_tests) in
      numbers_good own kids ∙ ap (λ b. bad_if (not b) form) test

  pub node_bad : not_the_number (length nodes) (item_of 1 form) ≡ [] → flat_map (not_below (number_of (item_of 1 form))) (drop 3 (parts_of form)) ≡ []
      → 2 ^ 32 ≤ size (node_of sig nodes form) → node_misnumbered sig nodes form ≡ place_of form ∷ []
  node_bad own kids large =
      let test : nat_lt (size (node_of sig nodes form)) (2 ^ 32) ≡ false = grind (arith, nat_tests) in
      numbers_good own kids ∙ ap (λ b. bad_if (not b) form) test

  -- the node, over its children in a bank
  pub node_made : (bank : List Tree) (con : ConId) (ids : List TermId) → con ≡ constructor_or (constructor_at sig (item_of 2 form)) → map (tree_of bank) ids ≡ map (node_at nodes) (drop 3 (parts_of form))
      → node con (map (tree_of bank) ids) ≡ node_of sig nodes form
  node_made bank con ids is kids = ap₂ node is kids

  pub node_size : (bank : List Tree) (ids : List TermId) → map (tree_of bank) ids ≡ map (node_at nodes) (drop 3 (parts_of form))
      → size (node_of sig nodes form) ≡ 1 + sum (map size (map (tree_of bank) ids))
  node_size bank ids kids = size-node (constructor_or (constructor_at sig (item_of 2 form))) (map (node_at nodes) (drop 3 (parts_of form))) ∙ ap (λ ts. 1 + sum (map size ts)) (sym kids)

-- what the calls say, in the words of the form
pub record Called (bank : List Tree) (nodes : List TermId) (form : Sexpr) (kids : List TermId) : Type 0 where
  pub own : not_the_number (length (map (tree_of bank) nodes)) (item_of 1 form) ≡ []
  pub below : flat_map (not_below (number_of (item_of 1 form))) (drop 3 (parts_of form)) ≡ []
  pub found : map Some kids ≡ map (λ k. slice_get nodes (number_of k)) (drop 3 (parts_of form))

pub called : (bank : List Tree) (nodes slice : List TermId) (form own : Sexpr) (parts : List Sexpr) (count : ℕ) (kids : List TermId) → slice ≡ nodes → own ≡ item_of 1 form → parts ≡ drop 3 (parts_of form) → count ≡ length nodes
    → not_the_number count own ≡ [] → flat_map (not_below (number_of own)) parts ≡ [] → map Some kids ≡ map (λ k. slice_get slice (number_of k)) parts → Called bank nodes form kids
called bank nodes slice form own parts count kids is_slice is_own is_parts is_count number below found = record {
  own = ap₂ not_the_number (length-map nodes (tree_of bank) ∙ sym is_count) (sym is_own) ∙ number;
  below = ap₂ (λ o ps. flat_map (not_below (number_of o)) ps) (sym is_own) (sym is_parts) ∙ below;
  found = found ∙ ap₂ (λ ns ps. map (λ k. slice_get ns (number_of k)) ps) is_slice is_parts;
}

pub called_live : (bank : List Tree) (nodes : List TermId) (form : Sexpr) (kids : List TermId) → Called bank nodes form kids → All (IsLive bank) nodes → All (IsLive bank) kids
called_live bank nodes form kids c live = all_found bank nodes kids (drop 3 (parts_of form)) live c.found

module _ (sig : Declarations) (bank : List Tree) (nodes : List TermId) (form : Sexpr) (kids : List TermId) (c : Called bank nodes form kids) (live : All (IsLive bank) nodes) where
  called_size : size (node_of sig (map (tree_of bank) nodes) form) ≡ 1 + sum (map size (map (tree_of bank) kids))
  called_size = node_size sig (map (tree_of bank) nodes) form bank kids (trees_found bank nodes kids (drop 3 (parts_of form)) c.found)

  pub is_node : (con : ConId) (total : ℕ) → con ≡ constructor_or (constructor_at sig (item_of 2 form)) → total ≡ min (sum (map size (map (tree_of bank) kids))) (2 ^ 64 - 1) → total < 2 ^ 32 - 1 → IsNode sig bank nodes form con kids
  is_node con total made is few =
      let size_is = called_size in
      let small : size (node_of sig (map (tree_of bank) nodes) form) < 2 ^ 32 = omega (arith, size_is, is, few) in record {
        good = node_good sig (map (tree_of bank) nodes) form c.own c.below small;
        small = small;
        live = called_live bank nodes form kids c live;
        term = node_made sig (map (tree_of bank) nodes) form bank con kids made (trees_found bank nodes kids (drop 3 (parts_of form)) c.found);
      }

  pub too_large : (total : ℕ) → total ≡ min (sum (map size (map (tree_of bank) kids))) (2 ^ 64 - 1) → 2 ^ 32 - 1 ≤ total → first_fault 3 (node_misnumbered sig (map (tree_of bank) nodes) form) ≡ Some (fault 3 (place_of form))
  too_large total is many =
      let size_is = called_size in
      let large : 2 ^ 32 ≤ size (node_of sig (map (tree_of bank) nodes) form) = omega (arith, size_is, is, many) in
      ap (first_fault 3) (node_bad sig (map (tree_of bank) nodes) form c.own c.below large)
