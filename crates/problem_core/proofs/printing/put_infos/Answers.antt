use Rattle.std.proofs.Common.{◌++◌, ◌∙◌, ap}
use Rattle.problem_core.specs.Texts.{info_line}
use Rattle.problem_core.proofs.Loops.{one_more}
use Rattle.problem_core.proofs.printing.put_infos.Goals as goal

pub loop-info-preserved : goal.loop-info-preserved
loop-info-preserved c =
    one_more info_line c.args.infos.now c.loop-info.info-index c.info-item.result c.args.out.now c.loop-info-test.true c.loop-info.invariant
    (c.in_ok-put_info.ensures ∙ ap (λ info. c.loop-info.out ++ info_line info) c.info-item.is)
