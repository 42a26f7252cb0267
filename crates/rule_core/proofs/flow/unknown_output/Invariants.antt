use Rattle.std.proofs.Common.{◌≡◌, ◌≤◌, ◌+◌, map, drop, length}
use Rattle.sig_core.specs.declared.signature.Param.{Param}
use Rattle.sig_core.specs.Lists.{numbers_from}
use Rattle.sig_core.specs.Signatures.{plain_sorts, outputs_of, output_slots}
use Rattle.rule_core.specs.Flow.{unknown_in}
use Rattle.rule_core.proofs.flow.unknown_output.Given as goal

abbrev pub invariant-loop-param : goal.invariant-loop-param
invariant-loop-param l = (l.slot + length (plain_sorts (map (λ (p : Param). p.kind) (drop l.param-index l.params))) ≤ 64) × (unknown_in l.known (outputs_of (map (λ (p : Param). p.kind) (drop l.param-index l.params)) (numbers_from l.slot (plain_sorts (map (λ (p : Param). p.kind) (drop l.param-index l.params))))) ≡ unknown_in l.known (output_slots (map (λ (p : Param). p.kind) l.params)))
