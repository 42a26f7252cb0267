use Rattle.std.proofs.lemmas.Slice.Eq.{slice_eq-Decides}
use Rattle.solve_core.proofs.ValueEq.{value_eq-Decides}
use Rattle.solve_core.proofs.example.are_same.Goals as goal

pub returns : goal.returns
returns c = slice_eq-Decides value_eq-Decides _ _ _ c.eq.ensures
