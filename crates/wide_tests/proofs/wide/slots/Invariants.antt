use Rattle.std.proofs.Common.{All}
use Rattle.rule_core.specs.Rulebooks.{IsSmall}
use Rattle.wide_tests.proofs.wide.slots.Given as goal

abbrev pub invariant-loop-number : goal.invariant-loop-number
invariant-loop-number l = All IsSmall l.kids
