use Rattle.std.proofs.Common.{◌≡◌, map, drop}
use Rattle.sig_core.specs.declared.signature.Param.{Param}
use Rattle.making_core.specs.Rules.{term_args, who_of}
use Rattle.making_core.proofs.making.who_of.Given as goal

-- the term is among what is left
abbrev pub invariant-loop-k : goal.invariant-loop-k
invariant-loop-k l = who_of (term_args (map (λ (p : Param). p.kind) (drop l.k l.params)) (drop l.k l.args)) ≡ who_of (term_args (map (λ (p : Param). p.kind) l.params) l.args)
