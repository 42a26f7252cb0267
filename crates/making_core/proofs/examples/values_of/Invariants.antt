use Rattle.std.proofs.Common.{◌≡◌, ◌++◌, map, drop}
use Rattle.sig_core.specs.declared.signature.Param.{Param}
use Rattle.making_core.specs.Making.{value_of_argument}
use Rattle.making_core.specs.Rules.{plain_args}
use Rattle.making_core.proofs.examples.values_of.Given as goal

-- what is left makes the rest
abbrev pub invariant-loop-k : goal.invariant-loop-k
invariant-loop-k l =
    l.values ++ map value_of_argument (plain_args (map (λ (p : Param). p.kind) (drop l.k l.params)) (drop l.k l.args))
    ≡ map value_of_argument (plain_args (map (λ (p : Param). p.kind) l.params) l.args)
