use Rattle.std.proofs.Common.{◌≡◌, ℕ, ◌+◌, ◌<◌, List, length, map, sum, take, get_or, ap, ◌∙◌, arith}
use Rattle.std.proofs.lemmas.List.{map_push, take_more}
use Rattle.std.proofs.lemmas.List.Elements.{All-more}
use Rattle.std.proofs.lemmas.List.Sums.{sum_by_push}
use Rattle.term_core.specs.declared.ids.TermId.{TermId}
use Rattle.term_core.specs.declared.tree.Tree.{Tree}
use Rattle.term_core.specs.Banks.{IsLive, tree_of}
use Rattle.term_core.specs.Terms.{size}
use Rattle.example_terms.proofs.nodes.size_over.Goals as goal

total_more : (bank : List Tree) (kids : List TermId) (i : ℕ) (d : TermId) → i < length kids
    → sum (map size (map (tree_of bank) (take (i + 1) kids))) ≡ sum (map size (map (tree_of bank) (take i kids))) + size (tree_of bank (get_or kids i d))
total_more bank kids i d h =
    ap (λ ids. sum (map size (map (tree_of bank) ids))) (take_more kids i d h)
    ∙ ap (λ ts. sum (map size ts)) (map_push (tree_of bank) (take i kids) (get_or kids i d))
    ∙ ap sum (map_push size (map (tree_of bank) (take i kids)) (tree_of bank (get_or kids i d)))
    ∙ sum_by_push (λ n. n) (map size (map (tree_of bank) (take i kids))) (size (tree_of bank (get_or kids i d)))

pub loop-kid-preserved : goal.loop-kid-preserved
loop-kid-preserved c =
    let kids = c.args.kids.now in
    let kid : TermId = get_or kids c.loop-kid.kid-index (record { 0 = 0 }) in
    let more = total_more c.args.bank.now kids c.loop-kid.kid-index (record { 0 = 0 }) c.loop-kid-test.true in
    let live : IsLive c.args.bank.now kid = omega (arith, c.len.ensures.count) in record {
      live = All-more (IsLive c.args.bank.now) kids c.loop-kid.kid-index (record { 0 = 0 }) c.loop-kid-test.true c.loop-kid.invariant.live live;
      total = omega (arith, more, c.loop-kid.invariant.total, c.size-more.ensures);
      small = omega arith;
    }
