use Rattle.std.proofs.Common.{ap, sym, subst, ◌∙◌}
use Rattle.grammar_core.specs.Limits.{KeepsLimits}
use Rattle.grammar_core.specs.Whole.{whole}
use Rattle.problem_core.specs.Soundness.{IsSoundGrammar, wanted_type}
use Rattle.example_problems.specs.Examples.{example, the_type}
use Rattle.example_problems.proofs.Sound.{grammar_sound}
use Rattle.example_problems.proofs.problems.whole.Goals as goal

pub returns-clause-sound : goal.returns-clause-sound
returns-clause-sound c =
    let is = c.in_ok-grammar.ensures.whole ∙ ap (λ sig. whole sig the_type) c.requires in
    subst (IsSoundGrammar example) (sym is) (grammar_sound (subst KeepsLimits is c.in_ok-grammar.ensures.limits))

pub returns-clause-wanted : goal.returns-clause-wanted
returns-clause-wanted c = ap wanted_type (c.in_ok-grammar.ensures.whole ∙ ap (λ sig. whole sig the_type) c.requires)
