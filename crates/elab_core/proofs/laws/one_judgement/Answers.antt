use Rattle.elab_core.proofs.Judgements.{is_judged, judged_once}
use Rattle.elab_core.proofs.laws.one_judgement.Goals as goal

pub returns-clause-judged : goal.returns-clause-judged
returns-clause-judged c = is_judged

pub returns-clause-once : goal.returns-clause-once
returns-clause-once c = λ text result other a b. judged_once a b
