use Rattle.std.proofs.Common.{◌≡◌, ◌-◌, ◌++◌, Some, List, ℕ, length, take, drop, sym, ap, ◌∙◌, append_assoc, arith, length-drop}
use Rattle.std.proofs.lemmas.List.{take-append-drop, take_all}
use Rattle.std.proofs.Math.Seq.{take-add}
use Rattle.semgus_io.specs.Writes.{GrowsByPart}
use Rattle.semgus_io.proofs.Results.{OnErr-always}
use Rattle.semgus_io.proofs.sink.put_all.Goals as goal

pub returns-in_err-done-clause-part : goal.returns-in_err-done-clause-part
returns-in_err-done-clause-part g c =
    let bytes = c.args.bytes.now in
    let done = c.loop-done.done in
    let part : GrowsByPart (g.S.Sink.written c.args.sink.now) (g.S.Sink.written c.put.new.self) bytes =
    λ before e. (take done bytes, record { rest = drop done bytes; splits = take-append-drop done bytes }, c.in_err-done.ensures.stays ∙ c.loop-done.invariant.written before e) in
    OnErr-always c.from_residual.result part

pub loop-done-preserved : goal.loop-done-preserved
loop-done-preserved g c =
    let bytes = c.args.bytes.now in
    let done = c.loop-done.done in
    let n = c.in_ok-done.field-0 in
    let piece : take (length bytes - done) (drop done bytes) ≡ drop done bytes = take_all (length bytes - done) (drop done bytes) (omega (arith, length-drop done bytes)) in
    record {
      within = omega (arith, c.in_ok-done.ensures.within, length-drop done bytes);
      written = λ before e. c.in_ok-done.ensures.grows (before ++ take done bytes) (c.loop-done.invariant.written before e)
          ∙ ap (λ (xs : List ℕ). Some (before ++ take done bytes ++ take n xs)) piece
          ∙ ap Some (append_assoc before (take done bytes) (take n (drop done bytes)) ∙ ap (λ xs. before ++ xs) (sym (take-add done n bytes)));
      counted = c.in_ok-done.ensures.counted ∙ c.loop-done.invariant.counted;
    }
