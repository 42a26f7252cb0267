use Rattle.std.proofs.Common.{◌<◌, ◌+◌, ◌++◌, ◌∙◌, length, drop, ap, arith}
use Rattle.std.proofs.lemmas.List.{drop_all}
use Rattle.sexpr_core.specs.Texts.{form_text, gap_before}
use Rattle.problem_core.specs.Texts.{type_form}
use Rattle.problem_core.proofs.Loops.{drop_at, put_all, put_one}
use Rattle.problem_core.proofs.type_texts.put_type_names.Goals as goal

pub loop-t-preserved : goal.loop-t-preserved
loop-t-preserved c =
    let xs = c.args.signature.now.types in
    let i = c.loop-t.t in
    let within : i < length xs = omega (arith, c.types-t-end.ensures.value, c.loop-t-test.true) in
    put_one (type_form) xs i c.type_name.result.now (drop i xs) (drop (i + 1) xs) c.args.out.now c.loop-t.out c.put_gap.new.out c.put_type_name.new.out
    (drop_at xs i c.type_name.result.now within c.type_name.ensures) c.loop-t.invariant (c.in_ok-put_gap.ensures ∙ ap (λ k. c.loop-t.out ++ gap_before k) c.from.ensures) (c.in_ok-put_type_name.ensures ∙ ap (λ n. c.put_gap.new.out ++ form_text (type_form n)) c.as_slice.ensures)

pub returns : goal.returns
returns c =
    let xs = c.args.signature.now.types in
    let i = c.loop-t.t in
    put_all (type_form) xs i (drop i xs) c.args.out.now c.loop-t.out (drop_all i xs (omega (arith, c.types-t-end.ensures.value, c.loop-t-test.false))) c.loop-t.invariant
