use Rattle.std.proofs.Common.{◌≡◌, map, take}
use Rattle.grammar_core.specs.Whole.{nonterminal_for}
use Rattle.grammar_core.proofs.whole.production_for.Given as goal

abbrev pub invariant-loop-t : goal.invariant-loop-t
invariant-loop-t l = l.args ≡ map (nonterminal_for l.first) (take l.t-index l.types)
