use Rattle.std.proofs.Common.{◌≤◌, length}
use Rattle.example_rules.proofs.rules.variables.Given as goal

abbrev pub invariant-loop-number : goal.invariant-loop-number
invariant-loop-number l = (length l.vars ≤ l.number) × (l.number ≤ 62)
