use Rattle.std.proofs.Common.{◌≡◌, ◌++◌, map, drop}
use Rattle.sexpr_core.specs.declared.form.Sexpr.{Sexpr}
use Rattle.syntax_core.specs.Syntax.{pair_of}
use Rattle.syntax_core.proofs.grammars.type_names.Given as goal

-- what is left makes the rest
abbrev pub invariant-loop-pair : goal.invariant-loop-pair
invariant-loop-pair l = l.names ++ map (λ (pair : Sexpr). (pair_of pair).name) (drop l.pair-index l.pairs) ≡ map (λ (pair : Sexpr). (pair_of pair).name) l.pairs
