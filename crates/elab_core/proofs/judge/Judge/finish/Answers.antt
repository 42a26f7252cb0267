use Rattle.elab_core.proofs.Judged.{long_judged}
use Rattle.elab_core.proofs.judge.Judge.finish.Goals as goal

pub returns-then-self-gt-MOST_BYTES : goal.returns-then-self-gt-MOST_BYTES
returns-then-self-gt-MOST_BYTES c = λ bytes j. long_judged c.args.self bytes c.too_long.result j c.if-self-gt-MOST_BYTES.true c.too_long.ensures
