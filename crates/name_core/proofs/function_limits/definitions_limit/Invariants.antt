use Rattle.std.proofs.Common.{◌≡◌, drop}
use Rattle.name_core.specs.Bodies.{sites_of}
use Rattle.name_core.specs.Faults.{first}
use Rattle.name_core.specs.Walks.{sites_limits}
use Rattle.name_core.proofs.function_limits.definitions_limit.Given as goal

-- the first fault is among what is left
abbrev pub invariant-loop-function : goal.invariant-loop-function
invariant-loop-function l = first (sites_limits l.next (sites_of (drop l.function-index l.functions))) ≡ first (sites_limits l.rules (sites_of l.functions))
