use Rattle.std.proofs.Common.{◌≡◌, ◌++◌, map, drop}
use Rattle.syntax_core.specs.Syntax.{nonterminals_of, pair_of}
use Rattle.sort_core.proofs.grammar_sorts.nonterminals_of.Given as goal

-- what is left makes the rest
abbrev pub invariant-loop-item : goal.invariant-loop-item
invariant-loop-item l = l.pairs ++ map pair_of (drop l.item-index l.item-items) ≡ nonterminals_of l.form
