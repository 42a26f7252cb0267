use Rattle.std.proofs.Common.{◌≡◌, ◌+◌, ◌∙◌, Bool, false, true, List, get_or, set, ap, ap₂, sym, subst}
use Rattle.grammar_core.specs.declared.ids.NtId.{NtId}
use Rattle.grammar_core.specs.declared.marks.Marks.{Marks}
use Rattle.grammar_core.specs.Marks.{AreMarks, Grows}
use Rattle.grammar_core.proofs.Marking.{AreMarks-with_mark, Grows-with_mark, has_room}
use Rattle.grammar_core.proofs.marks.Marks.mark.Goals as goal

pub set-requires-2 : goal.set-requires-2
set-requires-2 c =
    let marks = c.args.self.now in
    let off : get_or marks.flags c.args.n.0 false ≡ false = sym (ap₂ (λ flags k. get_or flags k false) c.as_slice.ensures c.from-place.ensures) ∙ c.if-as_slice-place.false in
    has_room marks c.args.n.0 c.requires.fine c.requires.known off

pub returns-clause-fine : goal.returns-clause-fine
returns-clause-fine c =
    let marks = c.args.self.now in
    let n = c.args.n in
    let off : get_or marks.flags n.0 false ≡ false = sym (ap₂ (λ flags k. get_or flags k false) c.as_slice.ensures c.from-place.ensures) ∙ c.if-as_slice-place.false in
    let made : List Bool → List NtId → Marks = λ flags queue. record { flags = flags; queue = queue; count = marks.count + 1 } in
    let new = ap₂ made (c.set.ensures ∙ ap (λ k. set marks.flags k true) c.from-place.ensures) c.set-2.ensures in
    subst AreMarks (sym new) (AreMarks-with_mark marks n c.requires.fine c.requires.known off)

pub returns-clause-grows : goal.returns-clause-grows
returns-clause-grows c =
    let marks = c.args.self.now in
    let n = c.args.n in
    let off : get_or marks.flags n.0 false ≡ false = sym (ap₂ (λ flags k. get_or flags k false) c.as_slice.ensures c.from-place.ensures) ∙ c.if-as_slice-place.false in
    let made : List Bool → List NtId → Marks = λ flags queue. record { flags = flags; queue = queue; count = marks.count + 1 } in
    let new = ap₂ made (c.set.ensures ∙ ap (λ k. set marks.flags k true) c.from-place.ensures) c.set-2.ensures in
    subst (Grows (λ k. k ≡ n) marks) (sym new) (Grows-with_mark marks n c.requires.fine c.requires.known off)
