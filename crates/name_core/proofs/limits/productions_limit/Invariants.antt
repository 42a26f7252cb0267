use Rattle.std.proofs.Common.{◌≡◌, ◌+◌, drop}
use Rattle.name_core.specs.Faults.{first, found_from}
use Rattle.name_core.specs.Limits.{production_limits}
use Rattle.name_core.proofs.limits.productions_limit.Given as goal

-- the first fault is among what is left
abbrev pub invariant-loop-form : goal.invariant-loop-form
invariant-loop-form l =
    (first (found_from production_limits l.next (drop l.form-index l.forms)) ≡ first (found_from production_limits l.number l.forms))
    × (l.next ≡ l.number + l.form-index)
