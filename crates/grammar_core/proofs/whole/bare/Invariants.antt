use Rattle.std.proofs.Common.{◌≡◌}
use Rattle.grammar_core.proofs.Filling.{bare_to}
use Rattle.grammar_core.proofs.whole.bare.Given as goal

abbrev pub invariant-loop-t : goal.invariant-loop-t
invariant-loop-t l = l.made.items ≡ bare_to l.signature l.first l.t
