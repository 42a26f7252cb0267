-- The bounds within which a problem is solved.
use Rattle.std.specs.Prelude.{◌≤◌, ℕ}

-- a bound on the height of derivations
abbrev pub IsHeight : ℕ → Type 0
IsHeight height = (1 ≤ height) × (height ≤ 1000)

-- a bound on the size of terms
abbrev pub IsSize : ℕ → Type 0
IsSize size = (1 ≤ size) × (size ≤ 40)
