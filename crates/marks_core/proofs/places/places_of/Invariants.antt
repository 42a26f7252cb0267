use Rattle.std.proofs.Common.{◌≡◌, map}
use Rattle.std.specs.List.{range_with_len}
use Rattle.eval_core.specs.Lenses.{hands_on}
use Rattle.marks_core.proofs.places.places_of.Given as goal

abbrev pub invariant-loop-i : goal.invariant-loop-i
invariant-loop-i l = l.places ≡ map (hands_on l.problem l.con) (range_with_len 0 l.i)
