use Rattle.std.proofs.Common.{All, MatchBool, sym, ◌∙◌, subst}
use Rattle.term_core.specs.Banks.{tree_of}
use Rattle.problem_core.specs.Problems.{Solves}
use Rattle.solve_core.specs.Examples.{IsExampleOf}
use Rattle.solve_core.specs.Verifying.{Verification}
use Rattle.solve_core.proofs.Verifying.{examples_fit, solving_told}
use Rattle.solve_core.proofs.verifier.Verifier.solves.Goals as goal

pub all_hold-requires-clause-examples : goal.all_hold-requires-clause-examples
all_hold-requires-clause-examples c =
    let problem = c.self.inside.problem.now in
    subst (λ sig. All (IsExampleOf sig) c.as_slice-examples.result.now) (sym c.self.invariant.signature)
    (subst (All (IsExampleOf problem.signature)) (sym (c.as_slice-examples.ensures ∙ c.self.invariant.are_examples)) (examples_fit problem c.self.invariant.sound))

pub returns-clause-solves : goal.returns-clause-solves
returns-clause-solves c =
    let inside = c.self.inside in
    let tree = tree_of c.args.bank.now c.args.id in
    let told = solving_told inside.problem.now c.self.invariant.sound inside.height tree inside.evaluator.signature inside.evaluator.rules c.as_slice-examples.result.now c.in_ok-solves.solves
    c.self.invariant.signature c.self.invariant.rules (c.as_slice-examples.ensures ∙ c.self.invariant.are_examples) c.in_ok-solves.ensures.all in
    subst (λ (v : Verification). MatchBool c.in_ok-solves.solves (Solves v.problem v.height tree) (¬ Solves v.problem v.height tree)) c.self.view_is told
