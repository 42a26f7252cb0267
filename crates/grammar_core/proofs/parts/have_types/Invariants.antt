use Rattle.std.proofs.Common.{◌≡◌, drop}
use lib.Pointwise.{pointwise}
use Rattle.grammar_core.specs.Grammars.{nonterminal_at}
use Rattle.grammar_core.specs.Refusals.{same_type}
use Rattle.grammar_core.proofs.parts.have_types.Given as goal

abbrev pub invariant-loop-i : goal.invariant-loop-i
invariant-loop-i l =
    pointwise (λ t n. same_type t (nonterminal_at l.grammar n).owner) (drop l.i l.types) (drop l.i l.args) ≡ pointwise (λ t n. same_type t (nonterminal_at l.grammar n).owner) l.types l.args
