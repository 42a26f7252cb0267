use Rattle.std.proofs.Common.{◌≡◌, take, All}
use Rattle.grammar_core.proofs.parts.has_name.Given as goal

abbrev pub invariant-loop-nonterminal : goal.invariant-loop-nonterminal
invariant-loop-nonterminal l = All (λ n. n.name ≡ l.name → ⊥) (take l.nonterminal-index l.grammar)
