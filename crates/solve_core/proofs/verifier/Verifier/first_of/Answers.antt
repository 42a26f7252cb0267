use Rattle.std.proofs.Common.{◌∙◌, false, get_or, take, All, subst}
use Rattle.std.proofs.lemmas.List.{take_all}
use Rattle.std.proofs.lemmas.List.Elements.{All-more}
use Rattle.term_core.specs.declared.ids.TermId.{TermId}
use Rattle.term_core.specs.Banks.{tree_of}
use Rattle.problem_core.specs.Problems.{Solves}
use Rattle.solve_core.proofs.Verifying.{told_again}
use Rattle.solve_core.proofs.verifier.Verifier.first_of.Goals as goal

pub loop-id-preserved : goal.loop-id-preserved
loop-id-preserved c =
    let problem = c.args.self.now.problem in
    let height = c.args.self.now.height in
    let bank = c.args.bank.now in
    let ids = c.args.ids.now in
    let id : TermId = get_or ids c.loop-id.id-index (record { 0 = 0 }) in
    let mid = c.loop-id.self in
    let is = c.loop-id.invariant.verifies in
    let fails : ¬ Solves problem height (tree_of bank id) = told_again problem mid.problem height mid.height (tree_of bank id) c.in_ok-solves.field-0 false is.problem_is is.height_is c.if-branch.false c.in_ok-solves.ensures.solves in
    record {
      none = All-more (λ (other : TermId). ¬ Solves problem height (tree_of bank other)) ids c.loop-id.id-index (record { 0 = 0 }) c.loop-id-test.true c.loop-id.invariant.none fails;
      verifies = record {
        problem_is = c.solves.ensures.verifies.problem_is ∙ is.problem_is;
        height_is = c.solves.ensures.verifies.height_is ∙ is.height_is;
        stands = c.solves.ensures.verifies.stands;
      };
    }

pub returns-clause-first : goal.returns-clause-first
returns-clause-first c =
    let none : All (λ (other : TermId). ¬ Solves c.args.self.now.problem c.args.self.now.height (tree_of c.args.bank.now other)) (take c.loop-id.id-index c.args.ids.now) = c.loop-id.invariant.none in
    subst (All (λ (other : TermId). ¬ Solves c.args.self.now.problem c.args.self.now.height (tree_of c.args.bank.now other)))
    (take_all c.loop-id.id-index c.args.ids.now c.loop-id-test.false) none
