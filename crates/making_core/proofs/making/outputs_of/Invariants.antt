use Rattle.std.proofs.Common.{◌≡◌, ◌++◌, map, drop}
use Rattle.sig_core.specs.declared.signature.Param.{Param}
use Rattle.making_core.specs.Rules.{expr_of, output_args}
use Rattle.making_core.proofs.making.outputs_of.Given as goal

-- what is left makes the rest
abbrev pub invariant-loop-k : goal.invariant-loop-k
invariant-loop-k l =
    l.outputs ++ map expr_of (output_args (map (λ (p : Param). p.kind) (drop l.k l.params)) (drop l.k l.args)) ≡ map expr_of (output_args (map (λ (p : Param). p.kind) l.params) l.args)
