use Rattle.std.proofs.Common.{◌≡◌, ◌<◌, ◌^◌, Ok, decimal, sym, ap, ◌∙◌, arith}
use Rattle.std.proofs.lemmas.Fmt.{parse-decimal}
use Rattle.semgus_app.proofs.Texts.{texts_differ}
use Rattle.semgus_app.proofs.command.numeral_between.Goals as goal
use Rattle.semgus_app.proofs.command.numeral_between.Goals.{then-number-low-via-then-number-low, then-number-low-via-else-number-low+then-number-high, then-number-low-via-else-number-low+else-number-high+then-ne}

pub returns-in_default : goal.returns-in_default
returns-in_default c = λ n low high e.
    (let small : n < 2 ^ 32 = omega arith in
    let parsed : c.parse.result ≡ Ok n = parse-decimal 32 n c.args.word.now c.parse.result small (omega arith) e c.parse.ensures.value.0 in
    cc)

pub returns-then-number-low : goal.returns-then-number-low
returns-then-number-low c = λ n low high e.
    (let small : n < 2 ^ 32 = omega arith in
    let parsed : c.parse.result ≡ Ok n = parse-decimal 32 n c.args.word.now c.parse.result small (omega arith) e c.parse.ensures.value.0 in
    let same : c.in-Ok.number ≡ n = cc in
    elim c.then-number-low.branch [
      | then-number-low-via-then-number-low w ↦ absurd (omega arith)
      | then-number-low-via-else-number-low+then-number-high w ↦ absurd (omega arith)
      | then-number-low-via-else-number-low+else-number-high+then-ne w ↦ texts_differ w.format.result.now c.args.word.now w.if-ne.ensures (w.format.ensures.text ∙ ap decimal same ∙ sym e)
    ])
