use Rattle.std.proofs.Common.{ap, ◌∙◌, arith}
use Rattle.term_core.specs.Banks.{tree_of}
use Rattle.deriv_core.specs.Steps.{tree_steps}
use Rattle.eval_core.specs.Evaluations.{Evaluation}
use Rattle.solution_core.proofs.Derived.{all_done, going_on, starting, tidy_of, within_at}
use Rattle.solution_core.proofs.derivation.derive_all.Goals as goal

pub loop-constraint-init : goal.loop-constraint-init
loop-constraint-init c =
    starting c.args.problem.now c.args.height c.args.bank.now (tree_of c.args.bank.now c.args.root) c.new-evaluator.result c.args.steps.now c.new-derived.result
    (ap (λ (e : Evaluation). e.signature) c.new-evaluator.ensures.value ∙ c.signature.ensures.value) (ap (λ (e : Evaluation). e.rules) c.new-evaluator.ensures.value ∙ c.rulebook.ensures.value)
    (c.new-evaluator.ensures.banks c.args.bank.now) c.requires.none c.new-derived.ensures

pub derive_constraint-requires-clause-stands : goal.derive_constraint-requires-clause-stands
derive_constraint-requires-clause-stands c = c.loop-constraint.invariant.stands

pub derive_constraint-requires-clause-within : goal.derive_constraint-requires-clause-within
derive_constraint-requires-clause-within c =
    within_at c.args.problem.now c.args.height (tree_of c.args.bank.now c.args.root) c.loop-constraint.evaluator c.constraints-constraints.result.now c.loop-constraint.constraint-index c.constraint-item.result
    c.requires.solves c.constraints-constraints.ensures.value c.constraint-item.is c.loop-constraint-test.true c.loop-constraint.invariant.signature c.loop-constraint.invariant.rules

pub derive_constraint-requires-clause-live : goal.derive_constraint-requires-clause-live
derive_constraint-requires-clause-live c = c.loop-constraint.invariant.live

pub derive_constraint-requires-clause-tidy : goal.derive_constraint-requires-clause-tidy
derive_constraint-requires-clause-tidy c =
    tidy_of c.args.problem.now c.loop-constraint.evaluator (tree_steps c.args.bank.now c.loop-constraint.steps) c.loop-constraint.invariant.signature c.loop-constraint.invariant.rules c.loop-constraint.invariant.each.tidy

pub loop-constraint-preserved : goal.loop-constraint-preserved
loop-constraint-preserved c =
    let e = c.in_ok-id.ensures in
    going_on c.args.problem.now c.args.height c.args.bank.now (tree_of c.args.bank.now c.args.root) c.loop-constraint.evaluator c.derive_constraint.new.evaluator c.loop-constraint.steps c.derive_constraint.new.steps
    c.constraints-constraints.result.now c.loop-constraint.constraint-index c.constraint-item.result c.loop-constraint.derived c.push.new.self c.in_ok-id.id
    c.loop-constraint.invariant e.serves e.live e.tidy e.added e.fact c.in_ok-push.ensures.ok c.constraint-item.is c.loop-constraint-test.true

pub returns-clause-live : goal.returns-clause-live
returns-clause-live c = c.loop-constraint.invariant.live

pub returns-clause-derived : goal.returns-clause-derived
returns-clause-derived c =
    all_done c.args.problem.now c.args.height c.args.bank.now (tree_of c.args.bank.now c.args.root) c.loop-constraint.evaluator c.loop-constraint.steps c.constraints-constraints.result.now c.loop-constraint.constraint-index c.loop-constraint.derived
    c.requires.solves c.constraints-constraints.ensures.value (omega (arith, c.loop-constraint-test.false)) c.loop-constraint.invariant
