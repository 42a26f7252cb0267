use Rattle.std.proofs.Common.{◌≡◌, ◌++◌, map, drop}
use Rattle.sig_core.specs.declared.signature.Param.{Param}
use Rattle.sig_core.specs.Signatures.{plain_sorts}
use Rattle.rule_core.proofs.flow.put_plain_sorts.Given as goal

abbrev pub invariant-loop-param : goal.invariant-loop-param
invariant-loop-param l = l.sorts ++ plain_sorts (map (λ (p : Param). p.kind) (drop l.param-index l.params)) ≡ l.fn.sorts ++ plain_sorts (map (λ (p : Param). p.kind) l.params)
