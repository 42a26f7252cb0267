use Rattle.std.proofs.Common.{◌++◌, [], ◌∷◌, ◌+◌, map, drop, ap, ◌∙◌}
use Rattle.sort_core.specs.Branches.{open_case}
use Rattle.sort_core.specs.Sorts.{case_faults}
use Rattle.sort_core.proofs.Dues.{due_among, made_more, none_among}
use Rattle.sort_core.proofs.functions.put_cases.Goals as goal

pub returns-in-Err-clause-fault : goal.returns-in-Err-clause-fault
returns-in-Err-clause-fault c =
    due_among (case_faults c.args.signature.now c.args.function.now c.args.owner) c.args.cases.now c.loop-case.case-index c.case-item.result _ c.in-Err.error
    c.loop-case-test.true c.case-item.is c.loop-case.invariant.0 c.in-Err.ensures.fault

pub loop-case-preserved : goal.loop-case-preserved
loop-case-preserved c =
    let made = open_case c.args.signature.now c.args.relation c.args.function.now in
    let xs = c.args.cases.now in
    let i = c.loop-case.case-index in (
      none_among (case_faults c.args.signature.now c.args.function.now c.args.owner) xs i c.case-item.result _ c.loop-case-test.true c.case-item.is c.loop-case.invariant.0 c.in-Ok.ensures.fine,
      ap (λ o. o ++ map made (drop (i + 1) xs)) (c.in_ok-push-in-Ok.ensures.ok ∙ ap (λ m. c.loop-case.out ++ m ∷ []) c.in-Ok.ensures.made)
          ∙ made_more made c.loop-case.out xs i c.case-item.result _ c.loop-case-test.true c.case-item.is c.loop-case.invariant.1,
    )
