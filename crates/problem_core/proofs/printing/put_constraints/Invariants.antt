use Rattle.std.proofs.Common.{◌≡◌, ◌++◌, take}
use Rattle.std.specs.List.{flat_map}
use Rattle.problem_core.specs.Texts.{constraint_form, line}
use Rattle.problem_core.proofs.printing.put_constraints.Given as goal

abbrev pub invariant-loop-constraint : goal.invariant-loop-constraint
invariant-loop-constraint l = l.out ≡ l.fn.out ++ flat_map (λ c. line (constraint_form l.signature l.wanted c)) (take l.constraint-index l.constraints)
