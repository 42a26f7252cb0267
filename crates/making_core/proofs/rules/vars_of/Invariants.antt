use Rattle.std.proofs.Common.{◌≡◌, ◌++◌, map, drop}
use Rattle.making_core.specs.Rules.{var_of}
use Rattle.making_core.proofs.rules.vars_of.Given as goal

-- what is left makes the rest
abbrev pub invariant-loop-pair : goal.invariant-loop-pair
invariant-loop-pair l = l.vars ++ map var_of (drop l.pair-index l.pairs) ≡ map var_of l.pairs
