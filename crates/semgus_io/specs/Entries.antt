-- Files by name, the first of a name counting.
use Rattle.std.specs.Prelude.{ℕ, List, [], ◌∷◌, Option, Some, None, drop, slice_get, if◌then◌else◌, nat_eq}
use Rattle.std.specs.Cmp.Lexicographic.{pointwise}
use Rattle.semgus_io.specs.declared.entry.Entry.{Entry}
use Rattle.semgus_io.specs.declared.entry.Place.{Place}

-- the bytes of the first entry of the name
abbrev pub bytes_of : List ℕ → List Entry → Option (List ℕ)
bytes_of name [] = None
bytes_of name (e ∷ es) = if pointwise nat_eq e.name name then Some e.bytes else bytes_of name es

abbrev bytes_from : ℕ → Option Entry → List ℕ
bytes_from at None = []
bytes_from at (Some e) = drop at e.bytes

-- what wasn't taken of the file that is begun
abbrev pub left_at : List Entry → Option Place → List ℕ
left_at entries None = []
left_at entries (Some p) = bytes_from p.at (slice_get entries p.entry)
