-- What a steady sink has taken.
use Rattle.std.specs.Prelude.{ℕ, List, take}
use Rattle.semgus_io.specs.declared.steady_sink.SteadySink.{SteadySink}

abbrev pub written_of : SteadySink → List ℕ
written_of s = take s.len s.room.now
