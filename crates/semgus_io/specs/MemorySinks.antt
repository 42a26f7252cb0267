-- What a sink in memory has taken.
use Rattle.std.specs.Prelude.{ℕ, List, take, vec_len}
use Rattle.semgus_io.specs.declared.memory_sink.MemorySink.{MemorySink}

abbrev pub taken_bytes : MemorySink → List ℕ
taken_bytes s = take s.len s.room.items

-- the calls that are to fail, counted from 1
abbrev pub failing_puts : MemorySink → List ℕ
failing_puts s = s.failing_puts

-- how many bytes a put takes at most
abbrev pub most_at_once : MemorySink → ℕ
most_at_once s = s.most_at_once

-- the calls so far
abbrev pub puts : MemorySink → ℕ
puts s = s.puts

-- how many bytes it takes in all
abbrev pub room_of : MemorySink → ℕ
room_of s = vec_len s.room
