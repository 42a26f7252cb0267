use Rattle.std.proofs.Common.{◌≡◌, ◌++◌, drop}
use Rattle.name_core.proofs.copies.put_pairs.Given as goal

-- what is left makes the rest
abbrev pub invariant-loop-pair : goal.invariant-loop-pair
invariant-loop-pair l = l.into ++ drop l.pair-index l.pairs ≡ l.fn.into ++ l.pairs
