use Rattle.std.proofs.Common.{◌≡◌, ◌≤◌, ◌+◌, map, drop, length}
use Rattle.sig_core.specs.declared.signature.Param.{Param}
use Rattle.sig_core.specs.Signatures.{plain_sorts}
use Rattle.sig_core.proofs.params.count_plain.Given as goal

abbrev pub invariant-loop-param : goal.invariant-loop-param
invariant-loop-param l = (l.count ≤ l.param-index) × (l.count + length (plain_sorts (map (λ (p : Param). p.kind) (drop l.param-index l.params))) ≡ length (plain_sorts (map (λ (p : Param). p.kind) l.params)))
