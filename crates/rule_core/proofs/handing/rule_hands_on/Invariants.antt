use Rattle.std.proofs.Common.{take, All}
use Rattle.rule_core.specs.Flow.{TakesInputs}
use Rattle.rule_core.proofs.handing.rule_hands_on.Given as goal

abbrev pub invariant-loop-atom : goal.invariant-loop-atom
invariant-loop-atom l = All (TakesInputs l.signature l.rule l.child) (take l.atom-index l.atom-items)
