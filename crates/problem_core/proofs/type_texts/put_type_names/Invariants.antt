use Rattle.std.proofs.Common.{drop}
use Rattle.problem_core.specs.Texts.{type_form}
use Rattle.problem_core.proofs.Loops.{Left}
use Rattle.problem_core.proofs.type_texts.put_type_names.Given as goal

abbrev pub invariant-loop-t : goal.invariant-loop-t
invariant-loop-t l = Left (type_form) l.signature.types l.t (drop l.t l.signature.types) l.fn.out l.out
