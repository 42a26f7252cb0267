use Rattle.std.proofs.Common.{◌≡◌, ◌+◌, map, drop}
use Rattle.syntax_core.specs.declared.syntax.Case.{Case}
use Rattle.name_core.specs.Faults.{first}
use Rattle.name_core.specs.Walks.{rules_of_site, sites_limits, total}
use Rattle.name_core.proofs.function_limits.cases_limit.Given as goal

-- the first fault is among what is left
abbrev pub invariant-loop-case : goal.invariant-loop-case
invariant-loop-case l =
    (first (sites_limits l.next (map (λ (case : Case). record { function = l.function; case = case }) (drop l.case-index l.cases)))
    ≡ first (sites_limits l.rules (map (λ (case : Case). record { function = l.function; case = case }) l.cases)))
    × (l.next + total rules_of_site (map (λ (case : Case). record { function = l.function; case = case }) (drop l.case-index l.cases))
    ≡ l.rules + total rules_of_site (map (λ (case : Case). record { function = l.function; case = case }) l.cases))
