-- What a sink has taken.
use Rattle.std.specs.Prelude.{◌≡◌, ℕ, List, ◌++◌, Option, Some}

-- where they are told, the bytes written grew by these
abbrev pub Grows : Option (List ℕ) → Option (List ℕ) → List ℕ → Type 0
Grows old new bytes = (before : List ℕ) → old ≡ Some before → new ≡ Some (before ++ bytes)

-- a list begins with another
pub record IsPrefixOf (part whole : List ℕ) : Type 0 where
  pub rest : List ℕ
  pub splits : part ++ rest ≡ whole

-- where they are told, the bytes written grew by the first part of these
abbrev pub GrowsByPart : Option (List ℕ) → Option (List ℕ) → List ℕ → Type 0
GrowsByPart old new bytes = (before : List ℕ) → old ≡ Some before → (part : List ℕ) × IsPrefixOf part bytes × (new ≡ Some (before ++ part))
