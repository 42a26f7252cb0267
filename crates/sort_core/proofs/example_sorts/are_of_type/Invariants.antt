use Rattle.std.proofs.Common.{◌≡◌, map, drop}
use Rattle.sig_core.specs.declared.signature.Param.{Param}
use Rattle.sort_core.specs.Sorts.{are_of_type}
use Rattle.sort_core.proofs.example_sorts.are_of_type.Given as goal

-- what is left decides
abbrev pub invariant-loop-param : goal.invariant-loop-param
invariant-loop-param l = are_of_type l.owner (map (λ (p : Param). p.kind) (drop l.param-index l.params)) ≡ are_of_type l.owner (map (λ (p : Param). p.kind) l.params)
