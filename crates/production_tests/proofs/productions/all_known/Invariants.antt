use Rattle.std.proofs.Common.{take, All}
use Rattle.grammar_core.specs.Grammars.{IsKnown}
use Rattle.production_tests.proofs.productions.all_known.Given as goal

-- the nonterminals met so far are the grammar's
abbrev pub invariant-loop-arg : goal.invariant-loop-arg
invariant-loop-arg g l = All (IsKnown l.grammar) (take l.arg-index l.args)
