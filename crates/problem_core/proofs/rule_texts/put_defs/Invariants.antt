use Rattle.std.proofs.Common.{drop}
use Rattle.sig_core.specs.Lists.{numbers_from}
use Rattle.problem_core.specs.Texts.{def_at}
use Rattle.problem_core.proofs.Loops.{Left}
use Rattle.problem_core.proofs.rule_texts.put_defs.Given as goal

abbrev pub invariant-loop-r : goal.invariant-loop-r
invariant-loop-r l = Left (def_at l.signature l.rulebook) (numbers_from 0 l.signature.relations) l.r (numbers_from l.r (drop l.r l.signature.relations)) l.fn.out l.out
