use Rattle.checking_core.proofs.Spellings.{spelled_end}
use Rattle.checking_core.proofs.file.ended.Goals as goal

pub returns-in-Ok : goal.returns-in-Ok
returns-in-Ok c = λ text stands short.
    (let f = c.in-Ok.ensures.finishes text c.args.forms stands in
    spelled_end text c.args.forms c.finish.new.into f.0 short f.1 f.2)
