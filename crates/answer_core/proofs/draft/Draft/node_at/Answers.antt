use Rattle.std.proofs.Common.{◌<◌, ◌≤◌, ◌-◌, ◌^◌, min, sum, Some, map, All, sym, ap, subst, ◌∙◌, arith}
use Rattle.term_core.specs.Banks.{IsLive, tree_of}
use Rattle.term_core.specs.Terms.{size}
use Rattle.answer_core.specs.Names.{constructor_at}
use Rattle.answer_core.specs.Readings.{constructor_or, fault}
use Rattle.answer_core.proofs.Nodes.{called, called_live, is_node, too_large}
use Rattle.answer_core.proofs.draft.Draft.node_at.Goals as goal

pub size_over-requires : goal.size_over-requires
size_over-requires c =
    let self = c.args.self.now in
    let calls = called self.bank self.nodes c.as_slice.result.now c.args.form.now c.item_of-own.result.now c.parts_from.result.now c.len.result c.in_ok-kids.kids
    c.as_slice.ensures c.item_of-own.ensures c.parts_from.ensures c.len.ensures c.in_ok-the_number.ensures.0 c.in_ok-kids.ensures.ok.0 c.in_ok-kids.ensures.ok.1 in
    subst (All (IsLive self.bank)) (sym c.as_slice-2.ensures) (called_live self.bank self.nodes c.args.form.now c.in_ok-kids.kids calls c.requires.nodes)

pub returns-then-size_over-from-clause-err : goal.returns-then-size_over-from-clause-err
returns-then-size_over-from-clause-err c =
    let self = c.args.self.now in
    let calls = called self.bank self.nodes c.as_slice.result.now c.args.form.now c.item_of-own.result.now c.parts_from.result.now c.len.result c.in_ok-kids.kids
    c.as_slice.ensures c.item_of-own.ensures c.parts_from.ensures c.len.ensures c.in_ok-the_number.ensures.0 c.in_ok-kids.ensures.ok.0 c.in_ok-kids.ensures.ok.1 in
    let total = c.size_over.ensures ∙ ap (λ ids. min (sum (map size (map (tree_of self.bank) ids))) (2 ^ 64 - 1)) c.as_slice-2.ensures in
    let many : 2 ^ 32 - 1 ≤ c.size_over.result = omega (arith, c.from.ensures, c.if-size_over-from.true) in
    rw c.fault.ensures (too_large c.args.signature.now self.bank self.nodes c.args.form.now c.in_ok-kids.kids calls c.requires.nodes c.size_over.result total many ∙ ap (λ place. Some (fault 3 place)) (sym c.place.ensures))

pub returns-clause-ok : goal.returns-clause-ok
returns-clause-ok c =
    let self = c.args.self.now in
    let sig = c.args.signature.now in
    let calls = called self.bank self.nodes c.as_slice.result.now c.args.form.now c.item_of-own.result.now c.parts_from.result.now c.len.result c.in_ok-kids.kids
    c.as_slice.ensures c.item_of-own.ensures c.parts_from.ensures c.len.ensures c.in_ok-the_number.ensures.0 c.in_ok-kids.ensures.ok.0 c.in_ok-kids.ensures.ok.1 in
    let total = c.size_over.ensures ∙ ap (λ ids. min (sum (map size (map (tree_of self.bank) ids))) (2 ^ 64 - 1)) c.as_slice-2.ensures in
    let few : c.size_over.result < 2 ^ 32 - 1 = omega (arith, c.from.ensures, c.if-size_over-from.false) in
    is_node sig self.bank self.nodes c.args.form.now c.in_ok-kids.kids calls c.requires.nodes c.unwrap_or-con.result c.size_over.result
    (c.unwrap_or-con.ensures ∙ ap constructor_or (c.constructor_at.ensures ∙ ap (constructor_at sig) c.item_of.ensures)) total few
