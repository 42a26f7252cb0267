use Rattle.std.proofs.Common.{◌≡◌, drop}
use Rattle.rule_core.specs.Flow.{fault_from, flow_fault}
use Rattle.rule_core.proofs.flow.flow_fault.Given as goal

abbrev pub invariant-loop-atom : goal.invariant-loop-atom
invariant-loop-atom l = (l.number ≡ l.atom-index) × (fault_from l.signature l.rule l.known l.number (drop l.atom-index l.atom-items) ≡ flow_fault l.signature l.rule)
