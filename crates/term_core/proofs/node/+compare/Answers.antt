use Rattle.std.proofs.Common.{◌≡◌, ◌<◌, ◌∙◌, sym, ap, arith, length, map, min}
use Rattle.std.proofs.lemmas.Bool.{eqb-true}
use Rattle.term_core.specs.Banks.{tree_of}
use Rattle.term_core.specs.Nodes.{trees_of}
use Rattle.term_core.specs.Terms.{term_cmp}
use Rattle.term_core.proofs.Compare.{itself_equal, by_size, by_con, kids_decide, kids_differ, kids_end, numbers_agree, numbers_differ, order_differs}
use Rattle.term_core.proofs.NodeReads.{con_read, kids_read, size_read}
use Rattle.term_core.proofs.node.+compare.Goals as goal

pub returns-then-eq : goal.returns-then-eq
returns-then-eq t c =
    let tree = tree_of (trees_of c.args.nodes.now) in
    sym (itself_equal (tree c.args.a)) ∙ ap (λ n. term_cmp (tree c.args.a) (tree (record { 0 = n }))) (eqb-true c.args.a.0 c.args.b.0 (sym c.if-eq.ensures))

pub returns-then-left-right : goal.returns-then-left-right
returns-then-left-right t c =
    c.cmp.ensures ∙ by_size _ _ _ _ (size_read _ c.requires.bank c.args.a _ c.requires.left c.index-nodes-a.is) (size_read _ c.requires.bank c.args.b _ c.requires.right c.index-nodes-b.is) c.if-left-right.true

pub returns-then-ne : goal.returns-then-ne
returns-then-ne t c =
    let sizes = sym (size_read _ c.requires.bank c.args.a _ c.requires.left c.index-nodes-a.is) ∙ c.if-left-right.false ∙ size_read _ c.requires.bank c.args.b _ c.requires.right c.index-nodes-b.is in
    c.cmp-then-ne.ensures ∙ by_con _ _ _ _ sizes (ap (λ x. x.0) (con_read _ c.requires.bank c.args.a _ c.requires.left c.index-nodes-a.is)) (ap (λ x. x.0) (con_read _ c.requires.bank c.args.b _ c.requires.right c.index-nodes-b.is)) (numbers_differ _ _ _ c.if-ne.true c.ne.ensures)

pub returns-then-ne-2 : goal.returns-then-ne-2
returns-then-ne-2 t c =
    let tree = tree_of (trees_of c.args.nodes.now) in
    let lefts = c.as_slice-lefts.result.now in
    let rights = c.as_slice-rights.result.now in
    let sizes = sym (size_read _ c.requires.bank c.args.a _ c.requires.left c.index-nodes-a.is) ∙ c.if-left-right.false ∙ size_read _ c.requires.bank c.args.b _ c.requires.right c.index-nodes-b.is in
    let cons = sym (ap (λ x. x.0) (con_read _ c.requires.bank c.args.a _ c.requires.left c.index-nodes-a.is)) ∙ numbers_agree _ _ _ c.if-ne.false c.ne.ensures ∙ ap (λ x. x.0) (con_read _ c.requires.bank c.args.b _ c.requires.right c.index-nodes-b.is) in
    let left = kids_read _ c.requires.bank c.args.a _ c.requires.left c.index-nodes-a.is ∙ sym (ap (map tree) c.as_slice-lefts.ensures) in
    let right = kids_read _ c.requires.bank c.args.b _ c.requires.right c.index-nodes-b.is ∙ sym (ap (map tree) c.as_slice-rights.ensures) in
    let in_left : c.loop-i.i < length lefts = omega (arith, c.min-i-end.ensures, c.loop-i-test.true) in
    let in_right : c.loop-i.i < length rights = omega (arith, c.min-i-end.ensures, c.loop-i-test.true) in
    c.compare-order.ensures ∙ kids_differ tree lefts rights c.loop-i.i (record { 0 = 0 }) in_left in_right (λ e. order_differs _ _ c.if-ne-2.true c.ne-in-loop-i.ensures (c.compare-order.ensures ∙ e)) ∙ kids_decide _ _ tree lefts rights c.loop-i.i sizes cons left right c.loop-i.invariant

pub returns : goal.returns
returns t c =
    let tree = tree_of (trees_of c.args.nodes.now) in
    let lefts = c.as_slice-lefts.result.now in
    let rights = c.as_slice-rights.result.now in
    let sizes = sym (size_read _ c.requires.bank c.args.a _ c.requires.left c.index-nodes-a.is) ∙ c.if-left-right.false ∙ size_read _ c.requires.bank c.args.b _ c.requires.right c.index-nodes-b.is in
    let cons = sym (ap (λ x. x.0) (con_read _ c.requires.bank c.args.a _ c.requires.left c.index-nodes-a.is)) ∙ numbers_agree _ _ _ c.if-ne.false c.ne.ensures ∙ ap (λ x. x.0) (con_read _ c.requires.bank c.args.b _ c.requires.right c.index-nodes-b.is) in
    let left = kids_read _ c.requires.bank c.args.a _ c.requires.left c.index-nodes-a.is ∙ sym (ap (map tree) c.as_slice-lefts.ensures) in
    let right = kids_read _ c.requires.bank c.args.b _ c.requires.right c.index-nodes-b.is ∙ sym (ap (map tree) c.as_slice-rights.ensures) in
    let at_end : c.loop-i.i ≡ min (length lefts) (length rights) = omega (arith, c.min-i-end.ensures, c.loop-i-test.false, c.loop-i.auto.i-end) in
    c.cmp-2.ensures ∙ kids_end tree lefts rights c.loop-i.i at_end ∙ kids_decide _ _ tree lefts rights c.loop-i.i sizes cons left right c.loop-i.invariant
