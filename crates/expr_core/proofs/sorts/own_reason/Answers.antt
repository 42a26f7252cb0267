use Rattle.std.proofs.Common.{◌<◌, ◌≤◌, Some, None, is_some, if◌then◌else◌, length, true, false, sym, ap, ◌∙◌, arith}
use Rattle.std.proofs.lemmas.Option.{slice_get-get_or, slice_get_past}
use Rattle.sig_core.specs.declared.value.Sort.TheVariants as sort
use Rattle.expr_core.specs.Faults.{survey}
use Rattle.expr_core.proofs.Surveys.{own-Slot, own-Apply}
use Rattle.expr_core.proofs.sorts.own_reason.Goals as goal

pub returns-in-Slot : goal.returns-in-Slot
returns-in-Slot c =
    let scope = c.args.scope.now in
    let slot = c.in-Slot.slot in
    let within : slot < length scope = omega arith in
    sym (ap (λ e. (survey scope e).own) c.in-Slot.is ∙ own-Slot scope slot ∙ ap (λ o. if is_some o then None else Some 1) (slice_get-get_or scope slot sort.Bool within))

pub returns-in-Slot-2 : goal.returns-in-Slot-2
returns-in-Slot-2 c =
    let scope = c.args.scope.now in
    let slot = c.in-Slot.slot in
    let past : length scope ≤ slot = omega arith in
    sym (ap (λ e. (survey scope e).own) c.in-Slot.is ∙ own-Slot scope slot ∙ ap (λ o. if is_some o then None else Some 1) (slice_get_past scope slot past))

pub returns-in-Apply : goal.returns-in-Apply
returns-in-Apply c =
    let scope = c.args.scope.now in
    sym (ap (λ e. (survey scope e).own) c.in-Apply.is ∙ own-Apply scope c.in-Apply.op c.in-Apply.kids c.len.result true c.len.ensures c.if-takes.ensures)

pub returns-in-Apply-2 : goal.returns-in-Apply-2
returns-in-Apply-2 c =
    let scope = c.args.scope.now in
    sym (ap (λ e. (survey scope e).own) c.in-Apply.is ∙ own-Apply scope c.in-Apply.op c.in-Apply.kids c.len.result false c.len.ensures c.if-takes.ensures)
