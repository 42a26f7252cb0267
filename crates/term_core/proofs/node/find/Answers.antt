use Rattle.std.proofs.Common.{◌≤◌, length, get_or, All, subst}
use Rattle.std.specs.Bool.{IsTrue}
use Rattle.std.proofs.lemmas.List.Elements.{All-more}
use Rattle.std.proofs.lemmas.List.{take_all}
use Rattle.term_core.specs.Keys.{HasNodeAt}
use Rattle.term_core.proofs.Places.{under_key}
use Rattle.term_core.proofs.node.find.Goals as goal

pub loop-number-preserved : goal.loop-number-preserved
loop-number-preserved c =
    let none = λ (at : HasNodeAt c.args.con c.args.kids.now c.args.nodes.now (get_or c.args.numbers.now c.loop-number.number-index 0)).
    let there : IsTrue c.has_node_at.result = c.has_node_at.ensures.1 at in
    let absent = c.if-has_node_at.false in
    let no : ⊥ = cc in
    no in
    All-more (λ k. HasNodeAt c.args.con c.args.kids.now c.args.nodes.now k → ⊥) c.args.numbers.now c.loop-number.number-index 0 c.loop-number-test.true c.loop-number.invariant none

pub returns : goal.returns
returns c =
    let numbers = c.args.numbers.now in
    let past : length numbers ≤ c.loop-number.number-index = c.loop-number-test.false in
    let none = subst (All (λ k. HasNodeAt c.args.con c.args.kids.now c.args.nodes.now k → ⊥)) (take_all c.loop-number.number-index numbers past) c.loop-number.invariant in
    under_key c.args.con c.args.kids.now c.args.nodes.now numbers c.requires none
