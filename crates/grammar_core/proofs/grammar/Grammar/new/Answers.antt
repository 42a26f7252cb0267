use Rattle.std.proofs.Common.{[], sym, subst}
use Rattle.grammar_core.specs.Kept.{IsKept}
use Rattle.grammar_core.specs.Limits.{KeepsLimits}
use Rattle.grammar_core.proofs.Keeping.{IsKept-none, KeepsLimits-none}
use Rattle.grammar_core.proofs.grammar.Grammar.new.Goals as goal

pub invariant_of-result : goal.invariant_of-result
invariant_of-result c = subst (λ g. IsKept g 0 c.new-2.result) (sym c.new.ensures.items) (subst (IsKept [] 0) (sym c.new-2.ensures) IsKept-none)

pub returns-clause-limits : goal.returns-clause-limits
returns-clause-limits c = subst KeepsLimits (sym c.new.ensures.items) KeepsLimits-none
