-- Counts of faults, which stand still at the last number of 64 bits.
use Rattle.std.specs.Prelude.{ℕ, ◌+◌, ◌-◌, ◌^◌, ◌<◌, ◌≤◌, min}

-- the count rose: it is greater, or stands at its last value
abbrev pub Rises : ℕ → ℕ → Type 0
Rises old new = min (old + 1) (2 ^ 64 - 1) ≤ new

-- the count did not rise
abbrev pub Stays : ℕ → ℕ → Type 0
Stays old new = new < min (old + 1) (2 ^ 64 - 1)
