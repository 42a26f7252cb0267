use Rattle.std.proofs.lemmas.List.Elements.{All-get_or}
use Rattle.term_core.specs.Banks.{leaf}
use Rattle.term_core.specs.Typings.{IsTermOf}
use Rattle.eval_core.specs.ShiftExample.{shifts}
use Rattle.marks_tests.proofs.marks.have_equal_marks.Goals as goal

pub mark-requires-clause-term : goal.mark-requires-clause-term
mark-requires-clause-term g c = (shifts, c.requires.signature, All-get_or (IsTermOf shifts) c.args.bank.now c.args.left.0 leaf c.requires.left c.requires.terms)

pub mark-requires-2-clause-term : goal.mark-requires-2-clause-term
mark-requires-2-clause-term g c = (shifts, (c.in_ok-first.ensures.stays.signatures_stay shifts).1 c.requires.signature, All-get_or (IsTermOf shifts) c.args.bank.now c.args.right.0 leaf c.requires.right c.requires.terms)
