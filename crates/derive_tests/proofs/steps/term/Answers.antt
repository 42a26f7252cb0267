use Rattle.std.proofs.Common.{[], arith}
use Rattle.term_core.proofs.Order.{size-node}
use Rattle.derive_tests.proofs.steps.term.Goals as goal

pub intern-requires-clause-small : goal.intern-requires-clause-small
intern-requires-clause-small c = omega (arith, size-node (record { 0 = 0 }) [])
