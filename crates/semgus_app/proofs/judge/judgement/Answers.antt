use Rattle.std.proofs.Common.{Err, subst}
use Rattle.sort_core.specs.declared.error.ElabError.{ElabError}
use Rattle.elab_core.specs.Feeding.{IsJudgement}
use Rattle.semgus_app.proofs.judge.judgement.Goals as goal

pub returns-in-Err-Fault : goal.returns-in-Err-Fault
returns-in-Err-Fault c = λ bytes j. subst (λ (e : ElabError). IsJudgement bytes (Err e)) c.in-Err-Fault.field-0-is (subst (IsJudgement bytes) c.in-Err-Fault.is (c.finish.ensures bytes j))
