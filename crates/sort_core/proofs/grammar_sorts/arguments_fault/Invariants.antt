use Rattle.std.proofs.Common.{◌≡◌, Some, drop}
use Rattle.name_core.specs.Faults.{first, found_from}
use Rattle.sort_core.specs.Sorts.{production_argument}
use Rattle.sort_core.proofs.grammar_sorts.arguments_fault.Given as goal

-- the first fault is among what is left
abbrev pub invariant-loop-k : goal.invariant-loop-k
invariant-loop-k l =
    first (found_from (production_argument l.signature l.pairs (Some l.con)) l.k (drop l.k l.forms)) ≡ first (found_from (production_argument l.signature l.pairs (Some l.con)) 0 l.forms)
