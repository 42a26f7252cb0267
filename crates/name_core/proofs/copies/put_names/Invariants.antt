use Rattle.std.proofs.Common.{◌≡◌, ◌++◌, drop}
use Rattle.name_core.specs.Names.{names_in}
use Rattle.name_core.proofs.copies.put_names.Given as goal

-- what is left makes the rest
abbrev pub invariant-loop-pair : goal.invariant-loop-pair
invariant-loop-pair l = l.into ++ names_in (drop l.pair-index l.pairs) ≡ l.fn.into ++ names_in l.pairs
