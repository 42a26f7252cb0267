use Rattle.sort_core.proofs.functions.matched_type.Goals as goal

pub returns : goal.returns
returns c = cc (c.type_named.ensures, c.sort_of_pair.ensures, c.as_slice-params.ensures, c.as_slice.ensures)
