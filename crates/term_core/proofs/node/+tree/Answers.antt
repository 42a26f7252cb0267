use Rattle.std.proofs.Common.{◌∙◌, sym, ap, map}
use Rattle.std.proofs.lemmas.List.{take_all}
use Rattle.term_core.specs.Banks.{tree_of}
use Rattle.term_core.specs.Nodes.{trees_of}
use Rattle.term_core.specs.Terms.{node}
use Rattle.term_core.proofs.Trees.{term_at}
use Rattle.term_core.proofs.node.+tree.Goals as goal

pub returns : goal.returns
returns t c =
    let terms = map (tree_of (trees_of c.args.nodes.now)) in
    let all = take_all c.loop-kid.kid-index c.as_slice-kid-items.result.now c.loop-kid-test.false ∙ c.as_slice-kid-items.ensures in
    ap (node c.index-nodes-id.result.con) (c.loop-kid.invariant ∙ ap terms all) ∙ sym (term_at _ c.requires.bank c.args.id.0 _ c.requires.live c.index-nodes-id.is)
