use Rattle.std.proofs.Common.{nat_lt, Err, map, sym, ap, ◌∙◌}
use Rattle.std.proofs.lemmas.List.{length-map}
use Rattle.term_core.specs.Banks.{tree_of}
use Rattle.deriv_core.specs.declared.parts.StepId.{StepId}
use Rattle.answer_core.specs.Drafts.{told_of}
use Rattle.answer_core.specs.Readings.{fault}
use Rattle.answer_core.specs.Names.{misnamed}
use Rattle.answer_core.specs.Shapes.{first, kind_due}
use Rattle.answer_core.proofs.Passes.{bad_name, bad_shape, good_names, no_kind}
use Rattle.answer_core.proofs.draft.Draft.read.Goals as goal

pub returns-in_default-clause-told : goal.returns-in_default-clause-told
returns-in_default-clause-told c =
    let self = c.args.self.now in
    let count = length-map self.derived (λ (id : StepId). id.0) ∙ sym c.len.ensures in
    let due = ap (λ n. kind_due self.due (nat_lt n c.args.constraints) c.args.form.now) count ∙ sym c.kind_due.ensures ∙ c.in_default.is in
    rw c.fault.ensures (no_kind c.args.signature.now c.args.constraints (told_of self) c.args.form.now due ∙ ap (λ place. Err (fault 1 place)) (sym c.place.ensures))

pub returns-in-Some-misfit-clause-told : goal.returns-in-Some-misfit-clause-told
returns-in-Some-misfit-clause-told c =
    let self = c.args.self.now in
    let count = length-map self.derived (λ (id : StepId). id.0) ∙ sym c.len.ensures in
    let due = ap (λ n. kind_due self.due (nat_lt n c.args.constraints) c.args.form.now) count ∙ sym c.kind_due.ensures ∙ c.in-Some.is in
    rw c.fault-in-Some-misfit.ensures (bad_shape c.args.signature.now c.args.constraints (told_of self) c.args.form.now c.in-Some.kind c.in-Some-misfit.place due (sym c.misfit.ensures ∙ c.in-Some-misfit.is))

pub returns-in-Some-misnamed-clause-told : goal.returns-in-Some-misnamed-clause-told
returns-in-Some-misnamed-clause-told c =
    let self = c.args.self.now in
    let count = length-map self.derived (λ (id : StepId). id.0) ∙ sym c.len.ensures in
    let due = ap (λ n. kind_due self.due (nat_lt n c.args.constraints) c.args.form.now) count ∙ sym c.kind_due.ensures ∙ c.in-Some.is in
    let names = ap (λ ids. first (misnamed c.args.signature.now (map (tree_of self.bank) ids) c.in-Some.kind c.args.form.now)) (sym c.as_slice.ensures) ∙ sym c.misnamed.ensures in
    rw c.fault-in-Some-misnamed.ensures
    (bad_name c.args.signature.now c.args.constraints (told_of self) c.args.form.now c.in-Some.kind c.in-Some-misnamed.place due (sym c.misfit.ensures ∙ c.in_default-misfit.is) (names ∙ c.in-Some-misnamed.is))

pub returns-clause-told : goal.returns-clause-told
returns-clause-told c =
    let self = c.args.self.now in
    let count = length-map self.derived (λ (id : StepId). id.0) ∙ sym c.len.ensures in
    let due = ap (λ n. kind_due self.due (nat_lt n c.args.constraints) c.args.form.now) count ∙ sym c.kind_due.ensures ∙ c.in-Some.is in
    let names = ap (λ ids. first (misnamed c.args.signature.now (map (tree_of self.bank) ids) c.in-Some.kind c.args.form.now)) (sym c.as_slice.ensures) ∙ sym c.misnamed.ensures in
    let good = good_names c.args.signature.now c.args.constraints (told_of self) c.args.form.now c.in-Some.kind due (sym c.misfit.ensures ∙ c.in_default-misfit.is) (names ∙ c.in_default-misnamed.is) in
    rw (good, ← c.due_after-self.ensures) c.add.ensures.told
