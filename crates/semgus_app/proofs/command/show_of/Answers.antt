use Rattle.std.proofs.Common.{sym, ◌∙◌, codes}
use Rattle.semgus_app.proofs.Forms.{two_words}
use Rattle.semgus_app.proofs.command.show_of.Goals as goal

pub returns : goal.returns
returns c = record {
  form = two_words c.args.words.now (codes "show") c.in_ok-file.file.now c.requires c.in_ok-file.ensures (sym c.len.ensures ∙ c.if-len-ne2.false);
  bounds = tt;
}
