use Rattle.std.proofs.Common.{◌≡◌, ◌++◌, drop}
use Rattle.name_core.specs.Names.{names_in, plain_pairs}
use Rattle.sort_core.proofs.cases.plain_names.Given as goal

-- what is left makes the rest
abbrev pub invariant-loop-pair : goal.invariant-loop-pair
invariant-loop-pair l = l.names ++ names_in (plain_pairs (drop l.pair-index l.pairs)) ≡ names_in (plain_pairs l.pairs)
