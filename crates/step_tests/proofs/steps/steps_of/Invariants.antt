use Rattle.std.proofs.Common.{All}
use Rattle.deriv_core.specs.declared.parts.Step.{Step}
use Rattle.term_core.specs.Banks.{IsLive}
use Rattle.step_tests.proofs.steps.steps_of.Given as goal

abbrev pub invariant-loop-row : goal.invariant-loop-row
invariant-loop-row l = All (λ (s : Step). IsLive l.bank s.node) l.steps
