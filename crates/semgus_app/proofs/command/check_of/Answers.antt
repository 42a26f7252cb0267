use Rattle.std.proofs.Common.{sym, ◌∙◌, codes}
use Rattle.semgus_app.proofs.Forms.{four_words}
use Rattle.semgus_app.proofs.command.check_of.Goals as goal

pub returns : goal.returns
returns c =
    let height = c.in_ok-height.ensures in
    let all = four_words c.args.words.now (codes "check") c.in_ok-file.file.now c.in_ok-answer.answer.now c.in_ok-get.field-0.now c.requires c.in_ok-file.ensures c.in_ok-answer.ensures c.in_ok-get.ensures (sym c.len.ensures ∙ c.if-len-ne4.false) in
    record {
      form = cc (all, height.2);
      bounds = (height.0, height.1);
    }
