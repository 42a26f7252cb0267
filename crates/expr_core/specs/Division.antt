-- Division of whole numbers, with a remainder that is never negative.
use Rattle.std.specs.Prelude.{◌≡◌, ℤ, pos, ◌+ℤ◌, ◌*ℤ◌, ◌≤ℤ◌, ◌<ℤ◌, nat_eq, if◌then◌else◌, Option, None}
use Rattle.std.specs.Int.{int_div_euclid, int_rem_euclid}
use Rattle.std.specs.Int.RustNames.{unsigned_abs}
use Rattle.sig_core.specs.Values.{ranged}

-- m is n times q and r more, where r is at least 0 and below |n|
pub record IsDivision (m n q r : ℤ) : Type 0 where
  pub total : m ≡ n *ℤ q +ℤ r
  pub low : pos 0 ≤ℤ r
  pub high : r <ℤ pos (unsigned_abs n)

-- the q of m ≡ n * q + r with 0 ≤ r < |n|, if n is not 0 and q is in range
abbrev pub quotient : ℤ → ℤ → Option ℤ
quotient m n = if nat_eq (unsigned_abs n) 0 then None else ranged (int_div_euclid m n)

-- that r, if n is not 0
abbrev pub remainder : ℤ → ℤ → Option ℤ
remainder m n = if nat_eq (unsigned_abs n) 0 then None else ranged (int_rem_euclid m n)
