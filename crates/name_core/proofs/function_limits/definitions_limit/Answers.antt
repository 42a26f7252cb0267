use Rattle.std.proofs.Common.{map, ap}
use Rattle.syntax_core.specs.declared.syntax.Case.{Case}
use Rattle.syntax_core.specs.declared.syntax.Function.{Function}
use Rattle.name_core.specs.Walks.{rules_of_site, site_limits}
use Rattle.name_core.proofs.Loops.{counted_here, counted_next}
use Rattle.name_core.proofs.function_limits.definitions_limit.Goals as goal

pub returns-in-Err : goal.returns-in-Err
returns-in-Err c =
    counted_here rules_of_site site_limits (λ (f : Function). map (λ (case : Case). record { function = f; case = case }) f.definition.cases) c.loop-function.next c.args.functions.now
    c.loop-function.function-index c.function-item.result (map (λ (case : Case). record { function = c.function-item.result; case = case }) c.as_slice.result.now) _ c.in-Err.fault
    c.loop-function-test.true c.function-item.is (ap (λ cases. map (λ (case : Case). record { function = c.function-item.result; case = case }) cases) c.as_slice.ensures) c.loop-function.invariant c.in-Err.ensures.fault

pub loop-function-preserved : goal.loop-function-preserved
loop-function-preserved c =
    counted_next rules_of_site site_limits (λ (f : Function). map (λ (case : Case). record { function = f; case = case }) f.definition.cases) c.loop-function.next c.in-Ok.after c.args.functions.now
    c.loop-function.function-index c.function-item.result (map (λ (case : Case). record { function = c.function-item.result; case = case }) c.as_slice.result.now) _
    c.loop-function-test.true c.function-item.is (ap (λ cases. map (λ (case : Case). record { function = c.function-item.result; case = case }) cases) c.as_slice.ensures) c.in-Ok.ensures.next c.loop-function.invariant c.in-Ok.ensures.fault
