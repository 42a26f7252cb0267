use Rattle.std.proofs.Common.{refl, sym, ◌∙◌, inl, inr, codes, arith}
use Rattle.semgus_app.proofs.Forms.{two_words, four_words}
use Rattle.semgus_app.proofs.command.solve_of.Goals as goal

pub returns-then-len-eq2 : goal.returns-then-len-eq2
returns-then-len-eq2 c = record {
  form = inr (two_words c.args.words.now (codes "solve") c.in_ok-file.file.now c.requires c.in_ok-file.ensures (sym c.len.ensures ∙ c.if-len-eq2.true), refl, refl);
  bounds = ((omega arith, omega arith), (omega arith, omega arith));
}

pub returns : goal.returns
returns c =
    let height = c.in_ok-height.ensures in
    let size = c.in_ok-size.ensures in
    let all = four_words c.args.words.now (codes "solve") c.in_ok-file.file.now c.in_ok-get.field-0.now c.in_ok-get-2.field-0.now c.requires c.in_ok-file.ensures c.in_ok-get.ensures c.in_ok-get-2.ensures (sym c.len-2.ensures ∙ c.if-len-ne4.false) in
    record {
      form = inl (cc (all, height.2, size.2));
      bounds = ((height.0, height.1), (size.0, size.1));
    }
