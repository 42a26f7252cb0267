use Rattle.std.proofs.Common.{drop}
use Rattle.problem_core.specs.Texts.{decl_form}
use Rattle.problem_core.proofs.Loops.{Left}
use Rattle.problem_core.proofs.rule_texts.put_decls.Given as goal

abbrev pub invariant-loop-r : goal.invariant-loop-r
invariant-loop-r l = Left (decl_form l.signature) l.signature.relations l.r (drop l.r l.signature.relations) l.fn.out l.out
