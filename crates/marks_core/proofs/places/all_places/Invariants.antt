use Rattle.std.proofs.Common.{◌≡◌, map}
use Rattle.std.specs.List.{range_with_len}
use Rattle.marks_core.specs.Tables.{places_at}
use Rattle.marks_core.proofs.places.all_places.Given as goal

abbrev pub invariant-loop-number : goal.invariant-loop-number
invariant-loop-number l = l.lists ≡ map (places_at l.problem) (range_with_len 0 l.number)
