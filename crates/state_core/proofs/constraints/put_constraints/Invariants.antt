use Rattle.std.proofs.Common.{◌≡◌, ◌++◌, map, drop}
use Rattle.making_core.specs.Making.{constraint_of}
use Rattle.state_core.proofs.constraints.put_constraints.Given as goal

-- what is left makes the rest
abbrev pub invariant-loop-call : goal.invariant-loop-call
invariant-loop-call l =
    l.constraints ++ map (constraint_of l.signature) (drop l.call-index l.calls) ≡ l.fn.constraints ++ map (constraint_of l.signature) l.calls
