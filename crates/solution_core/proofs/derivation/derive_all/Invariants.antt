use Rattle.std.proofs.Common.{take}
use Rattle.term_core.specs.Banks.{tree_of}
use Rattle.solution_core.proofs.Derived.{Deriving}
use Rattle.solution_core.proofs.derivation.derive_all.Given as goal

abbrev pub invariant-loop-constraint : goal.invariant-loop-constraint
invariant-loop-constraint l = Deriving l.problem l.height l.bank (tree_of l.bank l.root) l.evaluator l.steps (take l.constraint-index l.constraints) l.derived
