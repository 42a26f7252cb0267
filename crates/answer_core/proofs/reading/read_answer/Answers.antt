use Rattle.std.proofs.Common.{◌≤◌, ◌∙◌, length, ap, ap₂, sym, subst, arith}
use Rattle.std.specs.Option.{ok_or}
use Rattle.answer_core.specs.Answers.{tree_answer}
use Rattle.answer_core.specs.Drafts.{told_of}
use Rattle.answer_core.specs.Outcomes.{Gives}
use Rattle.answer_core.specs.Readings.{fault, form_reading, whole_answer}
use Rattle.answer_core.proofs.Following.{all_read, handed_on, one_bad, one_read, past_end, same_error}
use Rattle.answer_core.proofs.reading.read_answer.Goals as goal
use Rattle.answer_core.proofs.reading.read_answer.Goals.{else-loop-k-test, then-loop-k-test+in_default}

pub returns-in_err-read-clause-due : goal.returns-in_err-read-clause-due
returns-in_err-read-clause-due c =
    let problem = c.args.problem.now in
    let form = c.in-Some.form.now in
    let same = ap₂ (λ s cs. form_reading s (length cs) (told_of c.loop-k.draft) form) c.signature.ensures.value c.constraints-constraints.ensures.value in
    handed_on _ c.from_residual.result tree_answer c.in_err-read.field-0.0 c.from_residual.ensures.1
    (same_error _ _ _ tree_answer c.in_err-read.field-0.0
    (λ bad e. one_bad problem.signature (length problem.constraints) c.args.end c.args.forms.now _ (told_of c.loop-k.draft) c.loop-k.k c.loop-k.invariant.left form bad (sym c.in-Some.ensures.value) (sym same ∙ e))
    c.in_err-read.ensures.told)

pub loop-k-preserved : goal.loop-k-preserved
loop-k-preserved c =
    let problem = c.args.problem.now in
    let form = c.in-Some.form.now in
    let read = ap₂ (λ s cs. form_reading s (length cs) (told_of c.loop-k.draft) form) (sym c.signature.ensures.value) (sym c.constraints-constraints.ensures.value) ∙ c.in_ok-read.ensures.told in record {
      sound = c.in_ok-read.ensures.sound;
      left = one_read problem.signature (length problem.constraints) c.args.end c.args.forms.now _ (told_of c.loop-k.draft) c.loop-k.k c.loop-k.invariant.left form (told_of c.read.new.self) (sym c.in-Some.ensures.value) read;
    }

pub returns-clause-due : goal.returns-clause-due
returns-clause-due c =
    let problem = c.args.problem.now in
    let at_end : length c.args.forms.now ≤ c.loop-k.k = elim c.loop-k-test.branch [
      | else-loop-k-test w ↦ omega (arith, w.loop-k-test.false, c.len-k-end.ensures)
      | then-loop-k-test+in_default w ↦ past_end c.args.forms.now c.loop-k.k (sym w.in_default.ensures.value)
    ] in
    let whole = ap (λ cs. ok_or (whole_answer (length cs) (told_of c.loop-k.draft)) (fault 1 c.args.end)) c.constraints-constraints.ensures.value
    ∙ all_read problem.signature (length problem.constraints) c.args.end c.args.forms.now _ (told_of c.loop-k.draft) c.loop-k.k c.loop-k.invariant.left at_end in
    subst (λ due. Gives due c.finish.result tree_answer) whole c.finish.ensures.due
