use Rattle.std.proofs.Common.{◌≡◌, flat_map}
use Rattle.std.specs.List.{range_with_len}
use Rattle.marks_core.specs.Tables.{probes_in}
use Rattle.marks_core.proofs.probe.probes_of.Given as goal

abbrev pub invariant-loop-number : goal.invariant-loop-number
invariant-loop-number l = l.probes ≡ flat_map (probes_in l.signature l.owner l.examples) (range_with_len 0 l.number)
