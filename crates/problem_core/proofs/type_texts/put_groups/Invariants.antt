use Rattle.std.proofs.Common.{drop}
use Rattle.sig_core.specs.Lists.{numbers_from}
use Rattle.problem_core.specs.Texts.{group_form}
use Rattle.problem_core.proofs.Loops.{Left}
use Rattle.problem_core.proofs.type_texts.put_groups.Given as goal

abbrev pub invariant-loop-t : goal.invariant-loop-t
invariant-loop-t l = Left (group_form l.signature) (numbers_from 0 l.signature.types) l.t (numbers_from l.t (drop l.t l.signature.types)) l.fn.out l.out
