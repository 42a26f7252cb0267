use Rattle.std.proofs.Common.{◌≡◌, drop}
use Rattle.std.specs.List.{list_all}
use Rattle.rule_core.specs.Flow.{is_known}
use Rattle.rule_core.proofs.flow.are_known.Given as goal

abbrev pub invariant-loop-expr : goal.invariant-loop-expr
invariant-loop-expr l = list_all (is_known l.known) (drop l.expr-index l.exprs) ≡ list_all (is_known l.known) l.exprs
