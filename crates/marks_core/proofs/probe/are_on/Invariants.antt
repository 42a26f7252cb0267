use Rattle.std.proofs.Common.{◌≡◌, Some, map, drop}
use Rattle.sig_core.specs.declared.signature.Param.{Param}
use Rattle.sig_core.specs.Signatures.{term_type}
use Rattle.rule_core.specs.Flow.{same_type}
use Rattle.marks_core.proofs.probe.are_on.Given as goal

abbrev pub invariant-loop-param : goal.invariant-loop-param
invariant-loop-param l = same_type (term_type (map (λ (p : Param). p.kind) (drop l.param-index l.params))) (Some l.owner) ≡ same_type (term_type (map (λ (p : Param). p.kind) l.params)) (Some l.owner)
