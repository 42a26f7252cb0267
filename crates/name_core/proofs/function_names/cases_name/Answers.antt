use Rattle.std.proofs.Common.{◌∙◌, sym}
use Rattle.name_core.specs.Names.{case_names}
use Rattle.name_core.proofs.Loops.{flat_here}
use Rattle.name_core.proofs.function_names.cases_name.Goals as goal

pub returns-in-Some : goal.returns-in-Some
returns-in-Some c =
    flat_here (case_names c.args.signature.now c.args.relations.now c.args.scope.now) c.args.cases.now c.loop-case.case-index c.case-item.result _ c.in-Some.fault
    c.loop-case-test.true c.case-item.is c.loop-case.invariant (sym c.in-Some.is ∙ c.in_ok-fault.ensures)
