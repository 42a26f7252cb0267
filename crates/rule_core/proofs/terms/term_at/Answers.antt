use Rattle.std.proofs.Common.{option_map, slice_get, sym, ap, ◌∙◌, arith}
use Rattle.std.proofs.lemmas.Grind.{common_steps}
use Rattle.std.proofs.lemmas.Option.{gets}
use Rattle.term_core.specs.Banks.{tree_of}
use Rattle.rule_core.proofs.Children.{term_at-child}
use Rattle.rule_core.proofs.terms.term_at.Goals as goal

pub returns-in-Some : goal.returns-in-Some
returns-in-Some c =
    let kids = c.kids.result.now in
    let at = term_at-child c.args.bank.now _ _ kids c.args.who c.in-Child.child c.kids.ensures.node c.in-Child.is in
    let kid = c.in-Some.ensures ∙ ap (slice_get kids) c.from.ensures in
    (grind (arith, common_steps, gets), at ∙ ap (option_map (tree_of c.args.bank.now)) (sym kid))

pub returns-in-None : goal.returns-in-None
returns-in-None c =
    let kids = c.kids.result.now in
    let at = term_at-child c.args.bank.now _ _ kids c.args.who c.in-Child.child c.kids.ensures.node c.in-Child.is in
    let kid = c.in-None.ensures ∙ ap (slice_get kids) c.from.ensures in
    at ∙ ap (option_map (tree_of c.args.bank.now)) (sym kid)
