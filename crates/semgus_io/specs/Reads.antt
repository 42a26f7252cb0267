-- What a take of a file's bytes does.
use Rattle.std.specs.Prelude.{◌≡◌, ℕ, ◌<◌, ◌≤◌, List, Option, Some, length, take, drop}

-- The next n of the bytes were got, and the rest is left; none are got only at the end.
pub record Takes (bytes : List ℕ) (left : Option (List ℕ)) (n : ℕ) (got : List ℕ) : Type 0 where
  pub within : n ≤ length bytes
  pub got_is : got ≡ take n bytes
  pub left_is : left ≡ Some (drop n bytes)
  pub some : 0 < length bytes → 0 < n
