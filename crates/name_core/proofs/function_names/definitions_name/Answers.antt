use Rattle.std.proofs.Common.{◌∙◌, sym}
use Rattle.name_core.specs.Names.{definition_names}
use Rattle.name_core.proofs.Loops.{flat_here, flat_next}
use Rattle.name_core.proofs.function_names.definitions_name.Goals as goal

pub returns-in-Some : goal.returns-in-Some
returns-in-Some c =
    flat_here (definition_names c.args.signature.now c.args.relations.now) c.args.functions.now c.loop-function.function-index c.function-item.result _ c.in-Some.fault
    c.loop-function-test.true c.function-item.is c.loop-function.invariant (sym c.in-Some.is ∙ c.in_ok-fault.ensures)

pub loop-function-preserved : goal.loop-function-preserved
loop-function-preserved c =
    flat_next (definition_names c.args.signature.now c.args.relations.now) c.args.functions.now c.loop-function.function-index c.function-item.result _
    c.loop-function-test.true c.function-item.is c.loop-function.invariant (sym c.in_default.is ∙ c.in_ok-fault.ensures)
