use Rattle.sort_core.proofs.cases.opened_fault.Goals as goal

pub returns : goal.returns
returns c = cc (c.in_ok-branches_fault.ensures, c.constructor-constructor.ensures, c.as_slice-2.ensures, c.in_ok-sorts.ensures, c.as_slice.ensures)
