use Rattle.std.proofs.Common.{◌≡◌, drop}
use Rattle.rule_core.specs.Flow.{known_after_outputs}
use Rattle.rule_core.proofs.flow.learn_outputs.Given as goal

abbrev pub invariant-loop-expr : goal.invariant-loop-expr
invariant-loop-expr l = known_after_outputs l.known (drop l.expr-index l.outputs) ≡ known_after_outputs l.fn.known l.outputs
