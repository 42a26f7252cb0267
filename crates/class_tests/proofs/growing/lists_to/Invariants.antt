use Rattle.std.proofs.Common.{◌≡◌, ◌+◌, length}
use Rattle.size_core.specs.Lists.{StandFor}
use Rattle.class_tests.proofs.growing.lists_to.Given as goal

abbrev pub invariant-loop-size : goal.invariant-loop-size
invariant-loop-size l = record {
  grown : length l.lists + 1 ≡ l.size;
  stands : StandFor l.grammar l.bank l.lists;
}
