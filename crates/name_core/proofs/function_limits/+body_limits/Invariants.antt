use Rattle.std.proofs.Common.{◌≡◌, ◌+◌, drop}
use Rattle.name_core.specs.Faults.{first}
use Rattle.name_core.specs.Walks.{bodies_limits, rules_of_body, total}
use Rattle.name_core.proofs.function_limits.+body_limits.Given as goal

-- the first fault is among what is left
abbrev pub invariant-bodies_limit-loop-body : goal.invariant-bodies_limit-loop-body
invariant-bodies_limit-loop-body l =
    (first (bodies_limits l.slots l.next (drop l.body-index l.bodies)) ≡ first (bodies_limits l.slots l.rules l.bodies))
    × (l.next + total rules_of_body (drop l.body-index l.bodies) ≡ l.rules + total rules_of_body l.bodies)
