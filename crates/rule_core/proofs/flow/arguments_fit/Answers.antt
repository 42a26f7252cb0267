use Rattle.std.proofs.Common.{◌≡◌, ◌∙◌, Some, refl, sym, true}
use Rattle.std.proofs.lemmas.List.Elements.{All-rest}
use Rattle.rule_core.specs.Flow.{has_sort}
use Rattle.rule_core.specs.Modes.{sort_in_mode}
use Rattle.rule_core.specs.Rulebooks.{IsSmall}
use Rattle.rule_core.proofs.Arguments.{argument_step, kinds_more}
use Rattle.rule_core.proofs.flow.arguments_fit.Goals as goal

pub loop-param-preserved : goal.loop-param-preserved
loop-param-preserved c =
    let l = c.loop-param in
    let x = c.in-Some-split_first.expr.now in
    let others = c.in-Some-split_first.others.now in
    let kind = c.param-item.result.kind in
    let first = c.in-Some-split_first.ensures.cases.0 in
    let wanted : sort_in_mode c.args.mode kind ≡ Some c.in-Some.sort = sym c.sort_in_mode.ensures ∙ c.in-Some.is in
    let passed : has_sort c.args.scope.now x c.in-Some.sort ≡ true = sym c.has_sort.ensures ∙ c.if-not-has_sort.false in (
      All-rest IsSmall x others l.rest.now first l.invariant.0,
      argument_step (has_sort c.args.scope.now) c.args.mode kind c.in-Some.sort x others l.rest.now _ _ _
          (kinds_more c.args.params.now l.param-index c.param-item.result kind c.loop-param-test.true c.param-item.is refl) wanted first passed l.invariant.1,
    )
