use Rattle.std.proofs.Common.{◌≡◌, drop}
use Rattle.semgus_io.specs.Entries.{bytes_of}
use Rattle.semgus_io.proofs.entry.find.Given as goal

abbrev pub invariant-loop-i : goal.invariant-loop-i
invariant-loop-i l = bytes_of l.name (drop l.i l.entries) ≡ bytes_of l.name l.entries
