use Rattle.std.proofs.Common.{sym, subst}
use Rattle.eval_core.specs.Alikeness.{AreAlike}
use Rattle.eval_core.specs.Lenses.{hands_on}
use Rattle.class_core.specs.Looks.{IsLooks}
use Rattle.marks_core.specs.Marking.{Marking}
use Rattle.solve_core.specs.Pruning.{SolvesAlike}
use Rattle.solve_core.specs.Searching.{last_size}
use Rattle.solve_core.specs.Works.{term_found}
use Rattle.solve_core.proofs.Pruned.{alike_solve}
use Rattle.solve_core.proofs.solving.solve.Goals as goal

pub returns-clause-answer : goal.returns-clause-answer
returns-clause-answer c =
    let problem = c.args.problem.now in
    let height = c.args.height in
    c.in_ok-found.ensures.answer (λ fit.
    subst (λ (m : Marking). SolvesAlike problem height (AreAlike m.problem m.height)) (sym c.in_ok-marks.ensures.value) (alike_solve problem fit height))

pub returns-clause-looks : goal.returns-clause-looks
returns-clause-looks c =
    let last = last_size c.args.size (term_found c.search.new.work.bank c.in_ok-found.found) in
    subst (λ (m : Marking). IsLooks c.args.problem.now.grammar (AreAlike m.problem m.height) (hands_on m.problem) last c.search.new.work.looks) c.in_ok-marks.ensures.value c.in_ok-found.ensures.looks
