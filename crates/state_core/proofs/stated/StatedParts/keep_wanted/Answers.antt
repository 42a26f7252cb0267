use Rattle.syntax_core.specs.declared.commands.Head.TheVariants as head
use Rattle.state_core.proofs.GrammarSoundness.{clean, wanted_fits, wanted_taken}
use Rattle.state_core.proofs.Groupings.{of_word}
use Rattle.state_core.proofs.stated.StatedParts.keep_wanted.Goals as goal

pub put_wanted-requires : goal.put_wanted-requires
put_wanted-requires c =
    let s = c.args.self.now in
    let form = c.args.form.now in
    wanted_fits s.signature form (clean s form (of_word s head.SynthFun form c.requires.judged c.requires.shape c.requires.fine) c.requires.fine)

pub returns-in-Ok : goal.returns-in-Ok
returns-in-Ok c =
    let s = c.args.self.now in
    let form = c.args.form.now in
    wanted_taken s c.put_wanted.new.self form c.requires.judged.come c.requires.sound (of_word s head.SynthFun form c.requires.judged c.requires.shape c.requires.fine) c.requires.fine c.in-Ok.ensures
