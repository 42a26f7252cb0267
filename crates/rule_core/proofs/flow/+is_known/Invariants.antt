use Rattle.std.proofs.Common.{◌≡◌, drop}
use Rattle.std.specs.List.{list_all}
use Rattle.rule_core.specs.Flow.{is_known}
use Rattle.rule_core.proofs.flow.+is_known.Given as goal

abbrev pub invariant-loop-kid : goal.invariant-loop-kid
invariant-loop-kid l = list_all (is_known l.known) (drop l.kid-index l.kid-items) ≡ list_all (is_known l.known) l.kid-items
