use Rattle.std.proofs.Common.{◌≡◌, ◌++◌, drop}
use Rattle.name_core.specs.Names.{plain_pairs}
use Rattle.sort_core.specs.Sorts.{sorts_of}
use Rattle.sort_core.proofs.cases.plain_sorts.Given as goal

-- what is left makes the rest
abbrev pub invariant-loop-pair : goal.invariant-loop-pair
invariant-loop-pair l = l.sorts ++ sorts_of (plain_pairs (drop l.pair-index l.pairs)) ≡ sorts_of (plain_pairs l.pairs)
