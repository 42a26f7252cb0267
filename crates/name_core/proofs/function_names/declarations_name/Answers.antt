use Rattle.std.proofs.Common.{take, refl}
use Rattle.name_core.specs.Names.{declaration_names}
use Rattle.name_core.proofs.Loops.{after_here, after_next}
use Rattle.name_core.proofs.function_names.declarations_name.Goals as goal

pub returns-in-Some : goal.returns-in-Some
returns-in-Some c =
    after_here (declaration_names c.args.signature.now) c.args.functions.now (take c.loop-k.k c.args.functions.now) c.loop-k.k c.index-functions-k.result _ c.in-Some.fault
    c.loop-k-test.true c.index-functions-k.is refl c.loop-k.invariant c.in-Some.ensures

pub loop-k-preserved : goal.loop-k-preserved
loop-k-preserved c =
    after_next (declaration_names c.args.signature.now) c.args.functions.now (take c.loop-k.k c.args.functions.now) c.loop-k.k c.index-functions-k.result _
    c.loop-k-test.true c.index-functions-k.is refl c.loop-k.invariant c.in_default.ensures
