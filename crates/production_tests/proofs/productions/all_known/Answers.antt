use Rattle.std.proofs.Common.{arith, All, subst}
use Rattle.std.proofs.lemmas.List.{take_all}
use Rattle.std.proofs.lemmas.List.Elements.{All-more}
use Rattle.grammar_core.specs.Grammars.{IsKnown}
use Rattle.production_tests.proofs.productions.all_known.Goals as goal

pub loop-arg-preserved : goal.loop-arg-preserved
loop-arg-preserved g c = All-more (IsKnown c.args.grammar.now) c.args.args.now c.loop-arg.arg-index (record { 0 = 0 }) c.loop-arg-test.true c.loop-arg.invariant (omega arith)

pub returns : goal.returns
returns g c = subst (All (IsKnown c.args.grammar.now)) (take_all c.loop-arg.arg-index c.args.args.now c.loop-arg-test.false) c.loop-arg.invariant
