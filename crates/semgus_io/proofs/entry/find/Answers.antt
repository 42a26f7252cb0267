use Rattle.std.proofs.Common.{◌≡◌, true, nat_eq, refl, sym, ◌∙◌, length, arith}
use Rattle.std.proofs.lemmas.List.{at_drop_more}
use Rattle.std.proofs.lemmas.Option.{slice_get_read}
use Rattle.std.specs.Cmp.Lexicographic.{pointwise}
use Rattle.semgus_io.specs.Entries.{bytes_of}
use Rattle.semgus_io.proofs.entry.find.Goals as goal

pub returns-then-eq : goal.returns-then-eq
returns-then-eq c =
    let x = c.index-entries-i.result in
    let xs = c.args.entries.now in (
      x,
      slice_get_read xs (length xs) c.loop-i.i x refl (omega arith) c.index-entries-i.is,
      sym c.loop-i.invariant ∙ at_drop_more (bytes_of c.args.name.now) xs c.loop-i.i x (omega arith) ∙ rw (← c.index-entries-i.is) (let same : true ≡ pointwise nat_eq x.name c.args.name.now = rw (← c.as_slice.ensures) c.if-eq.ensures in rw (← same)),
    )
