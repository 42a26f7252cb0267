use Rattle.std.proofs.Common.{◌≡◌, ◌++◌, map, drop}
use Rattle.sig_core.specs.declared.signature.Param.{Param}
use Rattle.sig_core.specs.Signatures.{inputs_of}
use Rattle.sig_core.proofs.params.inputs_of.Given as goal

abbrev pub invariant-loop-param : goal.invariant-loop-param
invariant-loop-param l = l.inputs ++ inputs_of (map (λ (p : Param). p.kind) (drop l.param-index l.params)) l.rest ≡ inputs_of (map (λ (p : Param). p.kind) l.params) l.args
