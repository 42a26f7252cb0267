use Rattle.std.proofs.Common.{◌+◌, Option, option_map, drop, sym, ap, ◌∙◌, arith}
use Rattle.std.specs.Option.{option_copied}
use Rattle.state_core.specs.Commands.{Outcome}
use Rattle.elab_core.specs.Judging.{after}
use Rattle.elab_core.proofs.Judged.{judged_next, no_form}
use Rattle.elab_core.proofs.judge.judge_all.Goals as goal
use Rattle.elab_core.proofs.judge.judge_all.Goals.{in-Some+in_ok-judge_one, in_default}

pub loop-k-preserved : goal.loop-k-preserved
loop-k-preserved c = elim c.match-get.branch [
  | in-Some+in_ok-judge_one w ↦
      ap (λ (o : Option Outcome). option_map (λ outcome. after outcome (drop (c.loop-k.k + 1) c.args.forms.now)) o) (w.elaborator-is ∙ w.in_ok-judge_one.ensures)
      ∙ judged_next c.loop-k.elaborator c.args.forms.now c.loop-k.k w.in-Some.form.now (sym c.get.ensures.value ∙ ap option_copied w.in-Some.is) ∙ c.loop-k.invariant
  | in_default w ↦ absurd (no_form c.args.forms.now c.loop-k.k (omega (arith, c.loop-k-test.true, c.len-k-end.ensures)) (sym c.get.ensures.value ∙ ap option_copied w.in_default.is))
]
