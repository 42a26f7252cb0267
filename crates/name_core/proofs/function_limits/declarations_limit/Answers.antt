use Rattle.std.proofs.Common.{ℕ}
use Rattle.syntax_core.specs.declared.syntax.Function.{Function}
use Rattle.name_core.specs.Limits.{declaration_limits}
use Rattle.name_core.proofs.Loops.{numbered_here, numbered_next}
use Rattle.name_core.proofs.function_limits.declarations_limit.Goals as goal

pub returns-in-Some : goal.returns-in-Some
returns-in-Some c =
    numbered_here (λ (n : ℕ) (f : Function). declaration_limits n f.declaration) c.loop-function.next c.args.functions.now c.loop-function.function-index c.function-item.result _ c.in-Some.fault
    c.loop-function-test.true c.function-item.is c.loop-function.invariant c.in-Some.ensures.value

pub loop-function-preserved : goal.loop-function-preserved
loop-function-preserved c =
    numbered_next (λ (n : ℕ) (f : Function). declaration_limits n f.declaration) c.loop-function.next c.args.functions.now c.loop-function.function-index c.function-item.result _
    c.loop-function-test.true c.function-item.is c.loop-function.invariant c.in_default.ensures.value
