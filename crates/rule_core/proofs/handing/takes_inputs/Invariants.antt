use Rattle.std.proofs.Common.{◌≡◌, ◌≤◌, map, drop}
use Rattle.sig_core.specs.declared.signature.Param.{Param}
use lib.Pointwise.{pointwise}
use Rattle.sig_core.specs.Lists.{numbers_from}
use Rattle.sig_core.specs.Signatures.{plain_sorts, inputs_of, input_slots}
use Rattle.rule_core.specs.Flow.{names_slot}
use Rattle.rule_core.proofs.handing.takes_inputs.Given as goal

abbrev pub invariant-loop-param : goal.invariant-loop-param
invariant-loop-param l = (l.slot ≤ l.param-index) × (pointwise names_slot l.rest (inputs_of (map (λ (p : Param). p.kind) (drop l.param-index l.params)) (numbers_from l.slot (plain_sorts (map (λ (p : Param). p.kind) (drop l.param-index l.params))))) ≡ pointwise names_slot l.inputs (input_slots (map (λ (p : Param). p.kind) l.params)))
