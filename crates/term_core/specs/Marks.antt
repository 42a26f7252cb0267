-- Marks on the numbers of a bank.
use Rattle.std.specs.Prelude.{◌≡◌, ◌↔◌, ℕ, suc, ◌+◌, ◌<◌, Bool, true, false, List, [], ◌∷◌, length, slice_set, slice_index_or}
use Rattle.term_core.specs.declared.ids.TermId.{TermId}
use Rattle.term_core.specs.declared.tree.Tree.{Tree}
use Rattle.term_core.specs.Terms.{IsSubterm}
use Rattle.term_core.specs.Banks.{tree_of}

-- the marks, once those of the ids are set
abbrev pub marked_with : List TermId → List Bool → List Bool
marked_with [] marks = marks
marked_with (id ∷ ids) marks = marked_with ids (slice_set marks id.0 true)

-- the places of the marks that are set, the first mark's place being n
abbrev pub marked_from : ℕ → List Bool → List TermId
marked_from n [] = []
marked_from n (true ∷ marks) = record { 0 = n } ∷ marked_from (suc n) marks
marked_from n (false ∷ marks) = marked_from (suc n) marks

-- there is a mark for each number up to the id's, set at those of its subterms
pub record MarkSubterms (bank : List Tree) (id : TermId) (marks : List Bool) : Type 0 where
  pub size : length marks ≡ id.0 + 1
  pub exact : (k : ℕ) → k < length marks → (slice_index_or marks k false ≡ true) ↔ IsSubterm (tree_of bank (record { 0 = k })) (tree_of bank id)
