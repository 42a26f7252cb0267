use Rattle.sort_core.specs.Sorts.{definition_faults}
use Rattle.sort_core.proofs.Dues.{due_among, none_among}
use Rattle.sort_core.proofs.Steps.{cases_more}
use Rattle.sort_core.proofs.functions.put_functions.Goals as goal

pub returns-in-Err-clause-fault : goal.returns-in-Err-clause-fault
returns-in-Err-clause-fault c =
    due_among (definition_faults c.args.signature.now) c.args.functions.now c.loop-k.k c.index-functions-k.result _ c.in-Err.error
    c.loop-k-test.true c.index-functions-k.is c.loop-k.invariant.among c.in-Err.ensures.fault

pub loop-k-preserved : goal.loop-k-preserved
loop-k-preserved c = record {
  among = none_among (definition_faults c.args.signature.now) c.args.functions.now c.loop-k.k c.index-functions-k.result _
      c.loop-k-test.true c.index-functions-k.is c.loop-k.invariant.among c.in-Ok.ensures.fine;
  made = cases_more c.args.signature.now c.args.number c.loop-k.k c.args.functions.now c.index-functions-k.result c.loop-k.out _ _
      c.loop-k-test.true c.index-functions-k.is c.in-Ok.ensures.made c.loop-k.invariant.made;
}
