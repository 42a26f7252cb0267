use Rattle.std.proofs.Common.{◌++◌, sym, ap, subst, ◌∙◌, rules}
use Rattle.std.proofs.lemmas.Fn.{always_returns_same}
use Rattle.std.proofs.lemmas.List.Sorted.{ranks_by}
use Rattle.std.specs.List.Sorted.{IsPermutation}
use Rattle.term_core.specs.Banks.{Lists, tree_of}
use Rattle.term_core.specs.Marks.{marked_from}
use Rattle.term_core.specs.Nodes.{trees_of}
use Rattle.term_core.proofs.Order.{term_cmp-total}
use Rattle.term_core.proofs.Sorting.{read_as, is_before, lists_subterms}
use Rattle.term_core.proofs.node.subterms.Goals as goal

pub returns : goal.returns
returns c =
    let trees = trees_of c.args.nodes.now in
    let sorted = c.in_ok-sort_by.ensures.sorted (is_before trees c.args.id) (ranks_by term_cmp-total (read_as trees c.args.id)) (always_returns_same _ _ _ (λ a r f k. search rules)) in
    let moved = subst (λ xs. IsPermutation xs c.sort_by.new.self.items) (c.in_ok-ids.ensures ∙ ap (marked_from 0) c.as_slice.ensures.value) c.in_ok-sort_by.ensures.permutation in
    let copied = c.in_ok-append.ensures.ok ∙ ap (λ ids. ids ++ c.as_slice-2.result.now) c.new-sorted.ensures ∙ c.as_slice-2.ensures.value in
    subst (Lists trees (tree_of trees c.args.id)) (sym copied) (lists_subterms c.args.nodes.now c.requires.bank c.args.id c.requires.live _ c.in_ok-marks.ensures c.sort_by.new.self.items moved sorted)
