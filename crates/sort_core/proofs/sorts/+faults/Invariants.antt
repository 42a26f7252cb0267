use Rattle.std.proofs.Common.{◌≡◌, map, drop}
use Rattle.std.specs.List.{flat_map}
use Rattle.name_core.specs.Faults.{first, found_from}
use Rattle.sort_core.specs.Sorts.{Survey, operand_faults, operand_faults_at, survey}
use Rattle.sort_core.proofs.sorts.+faults.Given as goal

-- the first fault is among what is left
abbrev pub invariant-operand_fault-loop-k : goal.invariant-operand_fault-loop-k
invariant-operand_fault-loop-k l =
    first (found_from (operand_faults_at l.op (map (survey l.slots) l.kids)) l.k (map (survey l.slots) (drop l.k l.kids))) ≡ first (operand_faults l.op (map (survey l.slots) l.kids))

abbrev pub invariant-first_inner-loop-arg : goal.invariant-first_inner-loop-arg
invariant-first_inner-loop-arg l =
    first (flat_map (λ (e : Survey). e.inner) (map (survey l.slots) (drop l.arg-index l.args))) ≡ first (flat_map (λ (e : Survey). e.inner) (map (survey l.slots) l.args))
