use Rattle.std.proofs.Common.{◌<◌, ◌+◌, ◌++◌, ◌∙◌, length, drop, ap, arith}
use Rattle.std.proofs.lemmas.List.{drop_all}
use Rattle.sexpr_core.specs.Texts.{gap_before}
use Rattle.problem_core.specs.Texts.{decl_form}
use Rattle.problem_core.proofs.Loops.{drop_at, put_all, put_one}
use Rattle.problem_core.proofs.rule_texts.put_decls.Goals as goal

pub loop-r-preserved : goal.loop-r-preserved
loop-r-preserved c =
    let xs = c.args.signature.now.relations in
    let i = c.loop-r.r in
    let within : i < length xs = omega (arith, c.relations-r-end.ensures.value, c.loop-r-test.true) in
    put_one (decl_form c.args.signature.now) xs i c.relation.result.now (drop i xs) (drop (i + 1) xs) c.args.out.now c.loop-r.out c.put_gap.new.out c.put_decl.new.out
    (drop_at xs i c.relation.result.now within c.relation.ensures) c.loop-r.invariant (c.in_ok-put_gap.ensures ∙ ap (λ k. c.loop-r.out ++ gap_before k) c.from.ensures) (c.in_ok-put_decl.ensures)

pub returns : goal.returns
returns c =
    let xs = c.args.signature.now.relations in
    let i = c.loop-r.r in
    put_all (decl_form c.args.signature.now) xs i (drop i xs) c.args.out.now c.loop-r.out (drop_all i xs (omega (arith, c.relations-r-end.ensures.value, c.loop-r-test.false))) c.loop-r.invariant
