use Rattle.std.proofs.Common.{◌≡◌, [], length, ap, ap₂, sym, subst, ◌∙◌}
use Rattle.std.specs.Prelude.{codes}
use Rattle.grammar_core.specs.Limits.{KeepsLimits}
use Rattle.grammar_core.specs.Grammars.{start}
use Rattle.grammar_core.specs.Refusals.{with_nonterminal, with_production}
use Rattle.problem_core.specs.Soundness.{IsSoundGrammar, wanted_type}
use Rattle.example_problems.specs.Examples.{example, the_type}
use Rattle.example_problems.proofs.Sound.{narrow_grammar, narrow_sound}
use Rattle.example_problems.proofs.problems.narrow.Goals as goal
use Rattle.example_problems.proofs.problems.narrow.Goals.{In_ok-add_production}

made : (c : In_ok-add_production) → c.add_production.new.self ≡ narrow_grammar
made c =
    let empty = c.new-grammar.ensures.empty in
    let begun = c.in_ok-start.ensures.added.1 ∙ ap (λ g. with_nonterminal g (codes "A") the_type) empty in
    let first : c.in_ok-start.start ≡ start = c.in_ok-start.ensures.added.0 ∙ ap (λ g. record { 0 = length g }) empty in
    c.in_ok-add_production.ensures.added ∙ ap₂ (λ g n. with_production g n (record { con = record { 0 = 0 }; args = [] })) begun first

pub returns-clause-sound : goal.returns-clause-sound
returns-clause-sound c =
    let limits = c.in_ok-add_production.ensures.limits (c.in_ok-start.ensures.limits c.new-grammar.ensures.limits) in
    subst (IsSoundGrammar example) (sym (made c)) (narrow_sound (subst KeepsLimits (made c) limits))

pub returns-clause-wanted : goal.returns-clause-wanted
returns-clause-wanted c = ap wanted_type (made c)
