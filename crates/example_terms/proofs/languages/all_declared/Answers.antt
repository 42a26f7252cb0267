use Rattle.std.proofs.Common.{arith, length, All, subst}
use Rattle.std.proofs.lemmas.List.{take_all}
use Rattle.std.proofs.lemmas.List.Elements.{All-more}
use Rattle.sig_core.specs.WellFormed.{IsDeclared}
use Rattle.example_terms.proofs.languages.all_declared.Goals as goal

pub loop-ty-preserved : goal.loop-ty-preserved
loop-ty-preserved c = All-more (IsDeclared (length c.args.signature.now.types)) c.args.types.now c.loop-ty.ty-index (record { 0 = 0 }) c.loop-ty-test.true c.loop-ty.invariant (omega arith)

pub returns : goal.returns
returns c = λ _. subst (All (IsDeclared (length c.args.signature.now.types))) (take_all c.loop-ty.ty-index c.args.types.now c.loop-ty-test.false) c.loop-ty.invariant
