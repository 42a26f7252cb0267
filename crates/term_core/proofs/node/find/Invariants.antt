use Rattle.std.proofs.Common.{take, All}
use Rattle.term_core.specs.Keys.{HasNodeAt}
use Rattle.term_core.proofs.node.find.Given as goal

abbrev pub invariant-loop-number : goal.invariant-loop-number
invariant-loop-number l = All (λ k. HasNodeAt l.con l.kids l.nodes k → ⊥) (take l.number-index l.numbers)
