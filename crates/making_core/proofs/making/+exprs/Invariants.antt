use Rattle.std.proofs.Common.{◌≡◌, ◌++◌, map, drop}
use Rattle.making_core.specs.Rules.{expr_of}
use Rattle.making_core.proofs.making.+exprs.Given as goal

-- what is left makes the rest
abbrev pub invariant-exprs_of-loop-e : goal.invariant-exprs_of-loop-e
invariant-exprs_of-loop-e l = l.exprs ++ map expr_of (drop l.e-index l.es) ≡ map expr_of l.es
