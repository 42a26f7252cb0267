use Rattle.std.proofs.Common.{All, ap, sym, subst, ◌∙◌}
use Rattle.std.proofs.lemmas.List.Elements.{All-push}
use Rattle.rule_core.specs.Flow.{flow_fault}
use Rattle.problem_core.specs.Soundness.{IsSoundRule}
use Rattle.example_problems.specs.Examples.{example}
use Rattle.example_problems.proofs.Sound.{rule_sound}
use Rattle.example_problems.proofs.problems.add_rule.Goals as goal

pub returns-clause-sound : goal.returns-clause-sound
returns-clause-sound c =
    let flows = ap (λ sig. flow_fault sig c.in_ok-rule.rule) (sym c.requires.signature) ∙ c.in_ok-add.ensures.flows in
    let sound = rule_sound c.args.constant c.args.value c.in_ok-rule.rule c.in_ok-rule.ensures.value c.requires.constant c.in_ok-rule.ensures.fits flows in
    subst (All (IsSoundRule example)) (sym c.in_ok-add.ensures.added) (All-push (IsSoundRule example) c.args.book.now c.in_ok-rule.rule c.requires.sound sound)
