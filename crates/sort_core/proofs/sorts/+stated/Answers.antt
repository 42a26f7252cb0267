use Rattle.std.proofs.Common.{◌∙◌, sym, refl, arith}
use Rattle.std.proofs.lemmas.Option.{slice_get_read}
use Rattle.sort_core.proofs.Surveys.{stated_at-within, stated_at-past, stated-Apply}
use Rattle.sort_core.proofs.sorts.+stated.Goals as goal

pub stated_at-returns-then-k-kids : goal.stated_at-returns-then-k-kids
stated_at-returns-then-k-kids t c =
    let at = slice_get_read c.args.kids.now _ c.args.k c.index-kids-k.result refl (omega arith) c.index-kids-k.is in
    c.stated.ensures ∙ sym (stated_at-within c.args.slots.now c.args.kids.now c.args.k c.index-kids-k.result at)

pub stated_at-returns-else-k-kids : goal.stated_at-returns-else-k-kids
stated_at-returns-else-k-kids t c = sym (stated_at-past c.args.slots.now c.args.kids.now c.args.k (omega arith))

pub stated-returns-in-Apply : goal.stated-returns-in-Apply
stated-returns-in-Apply t c = c.stated_by.ensures ∙ stated-Apply c.args.slots.now c.args.e.now c.in-Apply.op c.in-Apply.kids c.as_slice.result.now c.in-Apply.is c.as_slice.ensures
