use Rattle.std.proofs.Common.{◌≡◌, ◌+◌, ◌-◌, ◌<◌, ◌∙◌, sym, ap, subst, arith, length, true, false, get_or, set}
use Rattle.std.proofs.lemmas.List.{get_or_read}
use Rattle.term_core.specs.Marks.{marked_with}
use Rattle.term_core.proofs.Marking.{Marked, marked_start, marked_skip, marked_next, marks_end, length-marked_with, written_back}
use Rattle.term_core.proofs.node.subterm_marks.Goals as goal

pub loop-k-init : goal.loop-k-init
loop-k-init c =
    subst (λ marks. Marked c.args.nodes.now c.args.id (c.args.id.0 + 1) (set marks c.args.id.0 true)) (sym (c.in_ok-marks.ensures.items_if_clones_equal (λ y e. e))) (marked_start c.args.nodes.now c.requires.bank c.args.id c.requires.live)

pub loop-k-preserved-then-index : goal.loop-k-preserved-then-index
loop-k-preserved-then-index c =
    let items = c.loop-k.marks.items in
    let last : c.loop-k.k ≡ (c.loop-k.k - 1) + 1 = omega (arith, c.loop-k-test.true) in
    let within : c.loop-k.k - 1 < length items = omega (arith, c.loop-k-test.true, c.loop-k.auto.k, c.loop-k.invariant.size) in
    let kids = c.as_slice.ensures ∙ ap (λ n. n.kids) (sym c.index-nodes-k.is) in
    let new = c.mark_all.ensures ∙ ap (λ ids. marked_with ids c.as_mut_slice.result.now) kids ∙ ap (marked_with c.index-nodes-k.result.kids) c.as_mut_slice.ensures.value in
    let on : get_or items (c.loop-k.k - 1) false ≡ true = sym (get_or_read items (c.loop-k.k - 1) c.index.result.now within c.index.ensures false) ∙ c.if-index.true in
    let next : Marked c.args.nodes.now c.args.id (c.loop-k.k - 1) (marked_with c.index-nodes-k.result.kids items) =
    marked_next c.args.nodes.now c.requires.bank c.args.id c.requires.live (c.loop-k.k - 1) items c.index-nodes-k.result (subst (λ k. Marked c.args.nodes.now c.args.id k items) last c.loop-k.invariant) (omega (arith, c.loop-k-test.true, c.loop-k.auto.k)) c.index-nodes-k.is on in
    subst (Marked c.args.nodes.now c.args.id (c.loop-k.k - 1)) (sym (written_back c.loop-k.marks.len c.mark_all.new.marks items c.loop-k.marks.ok.0 (ap length new ∙ length-marked_with c.index-nodes-k.result.kids items) ∙ new)) next

pub loop-k-preserved : goal.loop-k-preserved
loop-k-preserved c =
    let items = c.loop-k.marks.items in
    let last : c.loop-k.k ≡ (c.loop-k.k - 1) + 1 = omega (arith, c.loop-k-test.true) in
    let within : c.loop-k.k - 1 < length items = omega (arith, c.loop-k-test.true, c.loop-k.auto.k, c.loop-k.invariant.size) in
    let off : get_or items (c.loop-k.k - 1) false ≡ false = sym (get_or_read items (c.loop-k.k - 1) c.index.result.now within c.index.ensures false) ∙ c.if-index.false in
    marked_skip c.args.nodes.now c.requires.bank c.args.id c.requires.live (c.loop-k.k - 1) items (subst (λ k. Marked c.args.nodes.now c.args.id k items) last c.loop-k.invariant) off

pub returns : goal.returns
returns c =
    let done : c.loop-k.k ≡ 0 = omega (arith, c.loop-k-test.false) in
    marks_end c.args.nodes.now c.requires.bank c.args.id c.requires.live c.loop-k.marks.items (subst (λ k. Marked c.args.nodes.now c.args.id k c.loop-k.marks.items) done c.loop-k.invariant)
