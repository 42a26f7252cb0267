use Rattle.std.proofs.Common.{take, All}
use Rattle.rule_core.specs.Flow.{HandsOnAt}
use Rattle.rule_core.proofs.rulebook.Rulebook.hands_on.Given as goal

abbrev pub invariant-loop-number : goal.invariant-loop-number
invariant-loop-number l = All (HandsOnAt l.signature l.self l.i) (take l.number-index l.number-items)
