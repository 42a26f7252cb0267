use Rattle.std.proofs.Common.{◌≡◌, take}
use Rattle.grammar_core.specs.Whole.{whole_over}
use Rattle.grammar_core.proofs.whole.fill.Given as goal

abbrev pub invariant-loop-k : goal.invariant-loop-k
invariant-loop-k l = l.nonterminals.items ≡ whole_over l.signature l.first (take l.k l.signature.constructors)
