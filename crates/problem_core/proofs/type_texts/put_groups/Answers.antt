use Rattle.std.proofs.Common.{◌<◌, ◌+◌, ◌++◌, ◌∙◌, length, drop, ap, arith}
use Rattle.std.proofs.lemmas.List.{drop_all}
use Rattle.sig_core.specs.Lists.{numbers_from}
use Rattle.sexpr_core.specs.Texts.{gap_before}
use Rattle.problem_core.specs.Texts.{group_form}
use Rattle.problem_core.proofs.Loops.{numbers_at, put_all, put_one}
use Rattle.problem_core.proofs.type_texts.put_groups.Goals as goal

pub loop-t-preserved : goal.loop-t-preserved
loop-t-preserved c =
    let xs = c.args.signature.now.types in
    let i = c.loop-t.t in
    let within : i < length xs = omega (arith, c.types-t-end.ensures.value, c.loop-t-test.true) in
    put_one (group_form c.args.signature.now) (numbers_from 0 xs) i i (numbers_from i (drop i xs)) (numbers_from (i + 1) (drop (i + 1) xs)) c.args.out.now c.loop-t.out c.put_gap.new.out c.put_group.new.out
    (numbers_at xs i within) c.loop-t.invariant (c.in_ok-put_gap.ensures ∙ ap (λ k. c.loop-t.out ++ gap_before k) c.from.ensures) c.in_ok-put_group.ensures

pub returns : goal.returns
returns c =
    let xs = c.args.signature.now.types in
    let i = c.loop-t.t in
    put_all (group_form c.args.signature.now) (numbers_from 0 xs) i (numbers_from i (drop i xs)) c.args.out.now c.loop-t.out
    (ap (numbers_from i) (drop_all i xs (omega (arith, c.types-t-end.ensures.value, c.loop-t-test.false)))) c.loop-t.invariant
