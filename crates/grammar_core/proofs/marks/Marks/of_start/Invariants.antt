use Rattle.std.proofs.Common.{◌≡◌, ◌-◌}
use Rattle.grammar_core.specs.Marks.{start_and}
use Rattle.grammar_core.proofs.marks.Marks.of_start.Given as goal

abbrev pub invariant-loop-place : goal.invariant-loop-place
invariant-loop-place l = l.marks ≡ start_and (l._place - 1)
