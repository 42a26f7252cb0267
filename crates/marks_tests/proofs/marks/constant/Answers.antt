use Rattle.std.proofs.Common.{arith}
use Rattle.eval_core.specs.ShiftExample.{shifts}
use Rattle.marks_tests.proofs.Typed.{constant_is_term, constant_small}
use Rattle.marks_tests.proofs.marks.constant.Goals as goal

pub intern-requires-clause-small : goal.intern-requires-clause-small
intern-requires-clause-small c = let one = constant_small c.args.con in omega (arith, one)

pub returns-clause-terms : goal.returns-clause-terms
returns-clause-terms c = c.intern.ensures.of_signature shifts (constant_is_term c.args.con c.requires.con) c.requires.terms
