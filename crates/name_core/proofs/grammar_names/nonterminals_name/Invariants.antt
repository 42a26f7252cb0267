use Rattle.std.proofs.Common.{◌≡◌, take, drop}
use Rattle.name_core.specs.Faults.{first, found, found_after}
use Rattle.name_core.specs.Names.{nonterminal_names}
use Rattle.name_core.proofs.grammar_names.nonterminals_name.Given as goal

-- the first fault is among what is left
abbrev pub invariant-loop-k : goal.invariant-loop-k
invariant-loop-k l = first (found_after (nonterminal_names l.signature) (take l.k l.pairs) (drop l.k l.pairs)) ≡ first (found (nonterminal_names l.signature) l.pairs)
