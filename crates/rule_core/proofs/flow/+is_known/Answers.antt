use Rattle.std.proofs.Common.{◌≡◌, false, true, sym, ap, ◌∙◌, arith}
use Rattle.std.specs.List.{list_all}
use Rattle.std.proofs.lemmas.Grind.{common_steps}
use Rattle.rule_core.specs.Flow.{is_known}
use Rattle.rule_core.proofs.Equations.{known-Apply}
use Rattle.rule_core.proofs.flow.+is_known.Goals as goal

pub returns-then-not-is_known : goal.returns-then-not-is_known
returns-then-not-is_known t c =
    let kids = c.as_slice-kid-items.result.now in
    let known = c.args.known.now in
    let whole : is_known known c.args.expr.now ≡ list_all (is_known known) kids =
    ap (is_known known) c.in-Apply.is ∙ known-Apply known c.in-Apply.field-0 c.in-Apply.kids ∙ ap (list_all (is_known known)) (sym c.as_slice-kid-items.ensures) in
    let fails : false ≡ list_all (is_known known) kids = grind (arith, common_steps, c.if-not-is_known.ensures) in
    fails ∙ sym whole

pub returns-after-loop-kid : goal.returns-after-loop-kid
returns-after-loop-kid t c =
    let kids = c.as_slice-kid-items.result.now in
    let known = c.args.known.now in
    let whole : is_known known c.args.expr.now ≡ list_all (is_known known) kids =
    ap (is_known known) c.in-Apply.is ∙ known-Apply known c.in-Apply.field-0 c.in-Apply.kids ∙ ap (list_all (is_known known)) (sym c.as_slice-kid-items.ensures) in
    let passes : true ≡ list_all (is_known known) kids = grind (arith, common_steps) in
    passes ∙ sym whole
