use Rattle.std.proofs.Common.{◌≤◌, ◌+◌, length, All}
use Rattle.rule_core.specs.Rulebooks.{HasSmallParts}
use Rattle.example_rules.proofs.rules.ones.Given as goal

abbrev pub invariant-loop-slot : goal.invariant-loop-slot
invariant-loop-slot l = (length l.atoms + 1 ≤ l.slot) × (l.slot ≤ 64) × All HasSmallParts l.atoms
