use Rattle.making_core.specs.Rules.{case_rules}
use Rattle.making_core.proofs.Parts.{part_among}
use Rattle.making_core.proofs.flow.add_cases.Goals as goal

pub returns-in-Err-clause-part : goal.returns-in-Err-clause-part
returns-in-Err-clause-part c =
    part_among (case_rules c.args.signature.now) c.args.cases.now c.loop-case.case-index c.case-item.result c.args.rulebook.now c.loop-case.rulebook _ _
    c.loop-case-test.true c.case-item.is c.loop-case.invariant.made c.loop-case.invariant.grown c.in-Err.ensures.part
