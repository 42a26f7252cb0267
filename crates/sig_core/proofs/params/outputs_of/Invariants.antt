use Rattle.std.proofs.Common.{◌≡◌, ◌++◌, map, drop}
use Rattle.sig_core.specs.declared.signature.Param.{Param}
use Rattle.sig_core.specs.Signatures.{outputs_of}
use Rattle.sig_core.proofs.params.outputs_of.Given as goal

abbrev pub invariant-loop-param : goal.invariant-loop-param
invariant-loop-param l = l.outputs ++ outputs_of (map (λ (p : Param). p.kind) (drop l.param-index l.params)) l.rest ≡ outputs_of (map (λ (p : Param). p.kind) l.params) l.args
