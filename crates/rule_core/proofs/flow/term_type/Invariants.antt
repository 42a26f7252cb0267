use Rattle.std.proofs.Common.{◌≡◌, map, drop}
use Rattle.sig_core.specs.declared.signature.Param.{Param}
use Rattle.sig_core.specs.Signatures.{term_type}
use Rattle.rule_core.proofs.flow.term_type.Given as goal

abbrev pub invariant-loop-param : goal.invariant-loop-param
invariant-loop-param l = term_type (map (λ (p : Param). p.kind) (drop l.param-index l.params)) ≡ term_type (map (λ (p : Param). p.kind) l.params)
