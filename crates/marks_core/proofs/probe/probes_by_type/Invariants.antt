use Rattle.std.proofs.Common.{◌≡◌, map}
use Rattle.std.specs.List.{range_with_len}
use Rattle.marks_core.specs.Tables.{probes_for}
use Rattle.marks_core.proofs.probe.probes_by_type.Given as goal

abbrev pub invariant-loop-number : goal.invariant-loop-number
invariant-loop-number l = l.lists ≡ map (probes_for l.problem) (range_with_len 0 l.number)
