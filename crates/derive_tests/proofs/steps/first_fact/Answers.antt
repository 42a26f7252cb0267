use Rattle.std.proofs.Common.{pos, [], ◌∷◌, ◌∙◌, sym, subst, arith}
use Rattle.sig_core.specs.declared.value.Value.TheVariants.{Int}
use Rattle.term_core.specs.Banks.{tree_of}
use Rattle.problem_core.specs.Derivations.{Within}
use Rattle.deriv_core.specs.Facts.{tree_fact}
use Rattle.eval_core.specs.Outcomes.{AreOutcomes}
use Rattle.example_loops.specs.Loops.{loops}
use Rattle.derive_tests.proofs.Facts.{S, first_within}
use Rattle.derive_tests.proofs.steps.first_fact.Goals as goal

pub returns-clause-within : goal.returns-clause-within
returns-clause-within g c =
    let rules = c.args.evaluator.now.rules in
    let bank = c.args.bank.now in
    let height = c.args.height in
    let new = c.outcomes.new.self in
    let found = c.in_ok-outcomes.outcomes in
    let fact = c.in_ok-fact.fact in
    let node = tree_of bank c.args.node in
    let are = subst (λ s. AreOutcomes s rules height S node (Int (pos 3) ∷ []) found) c.requires.signature c.in_ok-outcomes.ensures.outcomes in
    let within = first_within rules height node (Int (pos 3)) found c.as_slice.result.now c.index-as_slice-0.result are c.as_slice.ensures (omega arith) c.index-as_slice-0.is in
    let there = subst (λ f. Within loops rules height (tree_fact bank f)) (sym c.in_ok-fact.ensures) within in
    subst (λ rs. Within new.signature rs height (tree_fact bank fact)) (sym c.outcomes.ensures.rules)
    (subst (λ s. Within s rules height (tree_fact bank fact)) (sym (c.outcomes.ensures.signature ∙ c.requires.signature)) there)
