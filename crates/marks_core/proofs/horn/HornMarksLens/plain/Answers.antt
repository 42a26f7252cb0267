use Rattle.std.proofs.Common.{◌<◌, length, sym, ap, subst, ◌∙◌}
use Rattle.lens_core.specs.Lenses.{HasPlace}
use Rattle.marks_core.specs.Tables.{all_places}
use Rattle.marks_core.proofs.Placed.{con_within, list_is, place_is, place_within}
use Rattle.marks_core.proofs.horn.HornMarksLens.plain.Goals as goal

pub bounds-as_slice-from : goal.bounds-as_slice-from
bounds-as_slice-from c =
    let place = subst (λ sig. HasPlace sig c.args.con c.args.i) c.requires.1.signature c.requires.2 in
    let are = c.as_slice.ensures ∙ c.self.invariant.are_places ∙ ap (λ m. all_places m.problem) c.self.view_is in
    subst (λ k. k < length c.as_slice.result.now) (sym c.from.ensures) (con_within c.args.self.now.problem c.args.con c.args.i place c.as_slice.result.now are)

pub bounds-as_slice-i : goal.bounds-as_slice-i
bounds-as_slice-i c =
    let problem = c.args.self.now.problem in
    let place = subst (λ sig. HasPlace sig c.args.con c.args.i) c.requires.1.signature c.requires.2 in
    let are = c.as_slice.ensures ∙ c.self.invariant.are_places ∙ ap (λ m. all_places m.problem) c.self.view_is in
    let is = list_is problem c.args.con c.args.i place c.as_slice.result.now c.index-as_slice-from.result c.from.result are c.from.ensures c.index-as_slice-from.is in
    place_within problem c.args.con c.args.i place c.as_slice-2.result.now (c.as_slice-2.ensures ∙ is)

pub returns : goal.returns
returns c =
    let problem = c.args.self.now.problem in
    let place = subst (λ sig. HasPlace sig c.args.con c.args.i) c.requires.1.signature c.requires.2 in
    let are = c.as_slice.ensures ∙ c.self.invariant.are_places ∙ ap (λ m. all_places m.problem) c.self.view_is in
    let is = list_is problem c.args.con c.args.i place c.as_slice.result.now c.index-as_slice-from.result c.from.result are c.from.ensures c.index-as_slice-from.is in
    place_is problem c.args.con c.args.i place c.as_slice-2.result.now (c.as_slice-2.ensures ∙ is)
