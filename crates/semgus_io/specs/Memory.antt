-- What files in memory tell.
use Rattle.std.specs.Prelude.{◌≡◌, ℕ, List, Option, Some}
use Rattle.semgus_io.specs.Entries.{bytes_of, left_at}
use Rattle.semgus_io.specs.declared.memory_files.MemoryFiles.{MemoryFiles}

-- the file of the name, or that there is none
abbrev pub held : MemoryFiles → List ℕ → Option (Option (List ℕ))
held m name = Some (bytes_of name m.entries.items)

-- what wasn't taken of the begun file
abbrev pub left : MemoryFiles → Option (List ℕ)
left m = Some (left_at m.entries.items m.open)

-- the calls that are to fail, counted from 1
abbrev pub failing_begins : MemoryFiles → List ℕ
failing_begins m = m.failing_begins

abbrev pub failing_takes : MemoryFiles → List ℕ
failing_takes m = m.failing_takes

-- how many bytes a take gives at most
abbrev pub most_at_once : MemoryFiles → ℕ
most_at_once m = m.most_at_once

-- the calls so far
abbrev pub begins : MemoryFiles → ℕ
begins m = m.begins

abbrev pub takes : MemoryFiles → ℕ
takes m = m.takes

-- the counts of failed opens, of failed reads and of bytes taken stay
abbrev pub SameCounts : MemoryFiles → MemoryFiles → Type 0
SameCounts old new = (new.open_faults ≡ old.open_faults) × (new.read_faults ≡ old.read_faults) × (new.taken ≡ old.taken)

-- the calls that are to fail stay
abbrev pub SameFailing : MemoryFiles → MemoryFiles → Type 0
SameFailing old new = (failing_begins new ≡ failing_begins old) × (failing_takes new ≡ failing_takes old)
