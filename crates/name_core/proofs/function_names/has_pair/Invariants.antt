use Rattle.std.proofs.Common.{◌≡◌, drop}
use Rattle.name_core.specs.Names.{has, names_in}
use Rattle.name_core.proofs.function_names.has_pair.Given as goal

-- what is left decides
abbrev pub invariant-loop-pair : goal.invariant-loop-pair
invariant-loop-pair l = has (names_in (drop l.pair-index l.pairs)) l.name ≡ has (names_in l.pairs) l.name
