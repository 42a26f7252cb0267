use Rattle.std.proofs.Common.{◌<◌, ◌+◌, ◌++◌, ◌∙◌, length, drop, ap, arith}
use Rattle.std.proofs.lemmas.List.{drop_all}
use Rattle.sig_core.specs.Lists.{numbers_from}
use Rattle.sexpr_core.specs.Texts.{gap_before}
use Rattle.problem_core.specs.Texts.{def_at}
use Rattle.problem_core.proofs.Loops.{numbers_at, put_all, put_one}
use Rattle.problem_core.proofs.rule_texts.put_defs.Goals as goal

pub loop-r-preserved : goal.loop-r-preserved
loop-r-preserved c =
    let xs = c.args.signature.now.relations in
    let i = c.loop-r.r in
    let within : i < length xs = omega (arith, c.relations-r-end.ensures.value, c.loop-r-test.true) in
    put_one (def_at c.args.signature.now c.args.rulebook.now) (numbers_from 0 xs) i i (numbers_from i (drop i xs)) (numbers_from (i + 1) (drop (i + 1) xs)) c.args.out.now c.loop-r.out c.put_gap.new.out c.put_def.new.out
    (numbers_at xs i within) c.loop-r.invariant (c.in_ok-put_gap.ensures ∙ ap (λ k. c.loop-r.out ++ gap_before k) c.from.ensures) c.in_ok-put_def.ensures

pub returns : goal.returns
returns c =
    let xs = c.args.signature.now.relations in
    let i = c.loop-r.r in
    put_all (def_at c.args.signature.now c.args.rulebook.now) (numbers_from 0 xs) i (numbers_from i (drop i xs)) c.args.out.now c.loop-r.out
    (ap (numbers_from i) (drop_all i xs (omega (arith, c.relations-r-end.ensures.value, c.loop-r-test.false)))) c.loop-r.invariant
