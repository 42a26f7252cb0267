use Rattle.std.proofs.Common.{◌≡◌, map, drop}
use Rattle.syntax_core.specs.Syntax.{pair_of}
use Rattle.name_core.specs.Faults.{first, found_from}
use Rattle.name_core.specs.Limits.{pair_limits}
use Rattle.name_core.proofs.limits.each_nonterminal_limit.Given as goal

-- the first fault is among what is left
abbrev pub invariant-loop-pair : goal.invariant-loop-pair
invariant-loop-pair l =
    first (found_from (pair_limits 256 12) l.next (map pair_of (drop l.pair-index l.pairs)))
    ≡ first (found_from (pair_limits 256 12) 0 (map pair_of l.pairs))
