use Rattle.std.proofs.Common.{◌∙◌, sym, ap, arith, refl}
use Rattle.std.proofs.lemmas.Option.{slice_get_read}
use Rattle.syntax_core.specs.Misfits.{leftmost}
use Rattle.syntax_core.specs.Shapes.{HasShape, IsMisfit}
use Rattle.syntax_core.specs.Shapes.IsMisfit.{itself}
use Rattle.syntax_core.proofs.Misfitting.{misfit_first, shaped_none}
use Rattle.syntax_core.proofs.Shaping.{found, all_shaped, one_more}
use Rattle.syntax_core.proofs.shapes.+misfit.Goals as goal

pub returns-then-not-fits-clause-shape : goal.returns-then-not-fits-clause-shape
returns-then-not-fits-clause-shape t c = itself c.args.due c.args.form.now c.place.result (sym c.fits.ensures ∙ c.if-not-fits.true) (sym c.place.ensures)

pub returns-then-not-fits-clause-first : goal.returns-then-not-fits-clause-first
returns-then-not-fits-clause-first t c =
    let bad : IsMisfit c.args.due c.args.form.now c.place.result = itself c.args.due c.args.form.now c.place.result (sym c.fits.ensures ∙ c.if-not-fits.true) (sym c.place.ensures) in
    sym (misfit_first bad)

pub returns-in-Some-clause-shape : goal.returns-in-Some-clause-shape
returns-in-Some-clause-shape t c =
    let items = c.parts_of-items.result.now in
    let at = slice_get_read items _ c.loop-k.k c.index-items-k.result refl (omega arith) c.index-items-k.is in
    found c.args.due c.due_in.result c.args.form.now items c.loop-k.k c.in-Some.place c.index-items-k.result
    c.parts_of-items.ensures (sym c.fits.ensures ∙ c.if-not-fits.false) at c.loop-k.invariant c.due_in.ensures c.in-Some.ensures.shape

pub returns-in-Some-clause-first : goal.returns-in-Some-clause-first
returns-in-Some-clause-first t c =
    let items = c.parts_of-items.result.now in
    let at = slice_get_read items _ c.loop-k.k c.index-items-k.result refl (omega arith) c.index-items-k.is in
    let bad : IsMisfit c.args.due c.args.form.now c.in-Some.place = found c.args.due c.due_in.result c.args.form.now items c.loop-k.k c.in-Some.place c.index-items-k.result
    c.parts_of-items.ensures (sym c.fits.ensures ∙ c.if-not-fits.false) at c.loop-k.invariant c.due_in.ensures c.in-Some.ensures.shape in
    sym (misfit_first bad)

pub loop-k-preserved : goal.loop-k-preserved
loop-k-preserved t c =
    let items = c.parts_of-items.result.now in
    let at = slice_get_read items _ c.loop-k.k c.index-items-k.result refl (omega arith) c.index-items-k.is in
    one_more c.args.due c.due_in.result items c.loop-k.k c.index-items-k.result at c.loop-k.invariant c.due_in.ensures c.in_default.ensures.shape

pub returns-clause-shape : goal.returns-clause-shape
returns-clause-shape t c =
    all_shaped c.args.due c.args.form.now c.parts_of-items.result.now c.loop-k.k c.parts_of-items.ensures (sym c.fits.ensures ∙ c.if-not-fits.false) (omega arith) c.loop-k.invariant

pub returns-clause-first : goal.returns-clause-first
returns-clause-first t c =
    let shaped : HasShape c.args.due c.args.form.now =
    all_shaped c.args.due c.args.form.now c.parts_of-items.result.now c.loop-k.k c.parts_of-items.ensures (sym c.fits.ensures ∙ c.if-not-fits.false) (omega arith) c.loop-k.invariant in
    sym (ap leftmost (shaped_none shaped))
