use Rattle.std.proofs.Common.{◌≡◌, map, drop}
use Rattle.syntax_core.specs.Syntax.{pair_of}
use Rattle.making_core.specs.Fitting.{NonterminalsFit, with_nonterminals}
use Rattle.making_core.proofs.grammars.add_nonterminals.Given as goal

-- what is left fits, and makes the rest
abbrev pub invariant-loop-form : goal.invariant-loop-form
invariant-loop-form l =
    (with_nonterminals l.signature l.grammar (map pair_of (drop l.form-index l.forms)) ≡ with_nonterminals l.signature l.initial.grammar (map pair_of l.forms))
    × NonterminalsFit l.signature l.grammar (map pair_of (drop l.form-index l.forms))
