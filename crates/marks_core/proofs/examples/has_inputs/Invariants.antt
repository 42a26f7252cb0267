use Rattle.std.proofs.Common.{◌≡◌, map, drop}
use Rattle.sig_core.specs.declared.signature.Param.{Param}
use Rattle.marks_core.specs.Tables.{has_inputs}
use Rattle.marks_core.proofs.examples.has_inputs.Given as goal

abbrev pub invariant-loop-param : goal.invariant-loop-param
invariant-loop-param l = has_inputs (map (λ (p : Param). p.kind) (drop l.param-index l.params)) l.rest ≡ has_inputs (map (λ (p : Param). p.kind) l.params) l.inputs
