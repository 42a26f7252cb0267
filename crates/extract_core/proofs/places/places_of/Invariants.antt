use Rattle.std.proofs.Common.{take}
use Rattle.extract_core.specs.Places.{ArePlaces, number_in}
use Rattle.extract_core.proofs.places.places_of.Given as goal

abbrev pub invariant-loop-number : goal.invariant-loop-number
invariant-loop-number l = ArePlaces l.signature (take l.number l.steps) (number_in l.places)
