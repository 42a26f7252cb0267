use Rattle.std.proofs.Common.{◌≡◌, drop}
use Rattle.sort_core.specs.Relations.{sort_of_pair}
use Rattle.sort_core.proofs.functions.sort_of_pair.Given as goal

-- the pair is among what is left
abbrev pub invariant-loop-pair : goal.invariant-loop-pair
invariant-loop-pair l = sort_of_pair (drop l.pair-index l.pairs) l.name ≡ sort_of_pair l.pairs l.name
