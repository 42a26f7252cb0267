-- What steady files tell.
use Rattle.std.specs.Prelude.{◌≡◌, ℕ, List, Option, Some}
use Rattle.semgus_io.specs.Entries.{bytes_of, left_at}
use Rattle.semgus_io.specs.declared.steady_files.SteadyFiles.{SteadyFiles}

-- the file of the name, or that there is none
abbrev pub held : SteadyFiles → List ℕ → Option (Option (List ℕ))
held s name = Some (bytes_of name s.entries.items)

-- what wasn't taken of the begun file
abbrev pub left : SteadyFiles → Option (List ℕ)
left s = Some (left_at s.entries.items s.open)

-- how many bytes a take gives at most
abbrev pub most_at_once : SteadyFiles → ℕ
most_at_once s = s.most_at_once

-- the counts of failed opens and of bytes taken stay
abbrev pub SameCounts : SteadyFiles → SteadyFiles → Type 0
SameCounts old new = (new.open_faults ≡ old.open_faults) × (new.taken ≡ old.taken)
