use Rattle.std.proofs.Common.{◌≡◌, ◌++◌, drop}
use Rattle.sort_core.specs.Sorts.{sorts_of}
use Rattle.sort_core.proofs.cases.with_sorts.Given as goal

-- what is left makes the rest
abbrev pub invariant-loop-pair : goal.invariant-loop-pair
invariant-loop-pair l = l.all ++ sorts_of (drop l.pair-index l.pairs) ≡ l.sorts ++ sorts_of l.pairs
