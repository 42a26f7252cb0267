use Rattle.std.proofs.Common.{◌≡◌, map, drop}
use Rattle.sexpr_core.specs.declared.form.Sexpr.{Sexpr}
use Rattle.syntax_core.specs.Syntax.{pair_of}
use Rattle.name_core.specs.Faults.{first, found_from}
use Rattle.name_core.specs.Limits.{type_limits}
use Rattle.name_core.proofs.limits.each_type_limit.Given as goal

-- the first fault is among what is left
abbrev pub invariant-loop-pair : goal.invariant-loop-pair
invariant-loop-pair l =
    first (found_from type_limits l.next (map (λ (pair : Sexpr). (pair_of pair).name) (drop l.pair-index l.pairs)))
    ≡ first (found_from type_limits l.number (map (λ (pair : Sexpr). (pair_of pair).name) l.pairs))
