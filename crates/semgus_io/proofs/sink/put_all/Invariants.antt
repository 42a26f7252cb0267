use Rattle.std.proofs.Common.{◌≡◌, ◌-◌, ◌≤◌, length, take}
use Rattle.semgus_io.specs.Writes.{Grows}
use Rattle.semgus_io.proofs.sink.put_all.Given as goal

-- the bytes up to `done` were put, and nothing else
abbrev pub invariant-loop-done : goal.invariant-loop-done
invariant-loop-done g l = record {
  within : l.done ≤ length l.bytes;
  written : Grows (g.S.Sink.written l.fn.sink) (g.S.Sink.written l.sink) (take l.done l.bytes);
  counted : g.S.Sink.faults l.sink ≡ g.S.Sink.faults l.fn.sink;
}

abbrev pub decreases-loop-done : goal.decreases-loop-done
decreases-loop-done g l = length l.bytes - l.done
