use Rattle.std.proofs.Common.{◌≡◌, ◌+◌, drop}
use Rattle.sig_core.specs.Lists.{numbers_from}
use Rattle.rule_core.specs.Flow.{unknown_in}
use Rattle.rule_core.proofs.flow.unknown_existential.Given as goal

abbrev pub invariant-loop-var : goal.invariant-loop-var
invariant-loop-var l = (l.slot ≡ l.first + l._var-index) × (unknown_in l.known (numbers_from l.slot (drop l._var-index l.more)) ≡ unknown_in l.known (numbers_from l.first l.more))
