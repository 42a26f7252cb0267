-- The first fault of a shape is at the first misfit.
use Rattle.std.proofs.Common.{◌≡◌, ℕ, List, [], ◌∷◌, map, refl}
use Rattle.std.specs.Prelude.{option_map}
use Rattle.syntax_core.specs.Misfits.{leftmost}
use Rattle.syntax_core.specs.Shapes.{refusal}
use Rattle.name_core.specs.Faults.{first}

pub first-shapes : (places : List ℕ) → first (map (λ place. refusal place 10) places) ≡ option_map (λ place. refusal place 10) (leftmost places)
first-shapes [] = refl
first-shapes (place ∷ places) = refl

pub ruleset shape_faults = (first-shapes)
