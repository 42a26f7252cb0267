use Rattle.std.proofs.Common.{◌≡◌, ◌++◌, map, drop}
use Rattle.sig_core.specs.declared.signature.Param.{Param}
use Rattle.rule_core.specs.declared.rule.Var.{Var}
use Rattle.sig_core.specs.Signatures.{plain_sorts}
use Rattle.rule_core.proofs.flow.slot_sorts.Given as goal

abbrev pub invariant-loop-var : goal.invariant-loop-var
invariant-loop-var l = l.sorts ++ map (λ (v : Var). v.sort) (drop l.var-index l.more) ≡ plain_sorts (map (λ (p : Param). p.kind) l.params) ++ map (λ (v : Var). v.sort) l.more
