use Rattle.std.proofs.Common.{◌≡◌, ◌+◌, drop}
use Rattle.name_core.specs.Faults.{first}
use Rattle.name_core.specs.Limits.{pairs_limits}
use Rattle.name_core.proofs.function_limits.pairs_limit.Given as goal

-- the first fault is among what is left
abbrev pub invariant-loop-pair : goal.invariant-loop-pair
invariant-loop-pair l =
    (first (pairs_limits l.most l.limit l.next (drop l.pair-index l.pairs)) ≡ first (pairs_limits l.most l.limit l.number l.pairs))
    × (l.next ≡ l.number + l.pair-index)
