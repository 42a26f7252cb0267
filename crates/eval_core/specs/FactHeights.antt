-- The heights of two facts compared, up to a bound.
use Rattle.std.specs.Prelude.{◌≤◌, ◌↔◌, ◌⊎◌, ℕ}
use Rattle.rule_core.specs.Instances.{Fact}
use Rattle.problem_core.specs.Derivations.{Within, IsLeastHeight}
use Rattle.problem_core.specs.Problems.{Parts}

-- both facts have derivations within the same heights, up to the bound
abbrev pub SameHeights : Parts → ℕ → Fact → Fact → Type 0
SameHeights problem bound f g = (h : ℕ) → h ≤ bound → Within problem.signature problem.rules h f ↔ Within problem.signature problem.rules h g

-- the fact has a least height up to the bound, or it is not derivable within the bound
abbrev pub IsSettled : Parts → ℕ → Fact → Type 0
IsSettled problem bound f = ((h : ℕ) × (h ≤ bound) × IsLeastHeight problem.signature problem.rules f h) ⊎ ¬ Within problem.signature problem.rules bound f

-- both facts have one least height, up to the bound
abbrev pub ShareLeastHeight : Parts → ℕ → Fact → Fact → Type 0
ShareLeastHeight problem bound f g =
    (h : ℕ) × (h ≤ bound) × IsLeastHeight problem.signature problem.rules f h × IsLeastHeight problem.signature problem.rules g h

-- both facts have one least height up to the bound, or neither is derivable within it
abbrev pub AgreeInHeight : Parts → ℕ → Fact → Fact → Type 0
AgreeInHeight problem bound f g = ShareLeastHeight problem bound f g ⊎ (¬ Within problem.signature problem.rules bound f × ¬ Within problem.signature problem.rules bound g)

-- facts that agree in height have derivations within the same heights
abbrev pub AgreeingIsSame : Type 0
AgreeingIsSame = (problem : Parts) (bound : ℕ) (f g : Fact) → AgreeInHeight problem bound f g → SameHeights problem bound f g

-- and the other way round, where the least height of one of them is settled
abbrev pub SameIsAgreeing : Type 0
SameIsAgreeing = (problem : Parts) (bound : ℕ) (f g : Fact) → IsSettled problem bound f → SameHeights problem bound f g → AgreeInHeight problem bound f g

-- facts with derivations within the same heights have the same least heights up to the bound
abbrev pub SameLeastHeights : Type 0
SameLeastHeights = (problem : Parts) (bound : ℕ) (f g : Fact) → SameHeights problem bound f g →
    (h : ℕ) → h ≤ bound → IsLeastHeight problem.signature problem.rules f h ↔ IsLeastHeight problem.signature problem.rules g h
