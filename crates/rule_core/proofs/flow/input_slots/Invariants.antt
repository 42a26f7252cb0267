use Rattle.std.proofs.Common.{◌≡◌, ◌≤◌, ◌+◌, ◌++◌, map, drop, length}
use Rattle.sig_core.specs.declared.signature.Param.{Param}
use Rattle.sig_core.specs.Lists.{numbers_from}
use Rattle.sig_core.specs.Signatures.{plain_sorts, inputs_of, input_slots}
use Rattle.rule_core.proofs.flow.input_slots.Given as goal

abbrev pub invariant-loop-param : goal.invariant-loop-param
invariant-loop-param l = (l.slot + length (plain_sorts (map (λ (p : Param). p.kind) (drop l.param-index l.params))) ≤ 64) × (l.slots ++ inputs_of (map (λ (p : Param). p.kind) (drop l.param-index l.params)) (numbers_from l.slot (plain_sorts (map (λ (p : Param). p.kind) (drop l.param-index l.params)))) ≡ input_slots (map (λ (p : Param). p.kind) l.params))
