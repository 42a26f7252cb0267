use Rattle.std.proofs.Common.{◌≡◌, drop}
use Rattle.std.specs.List.{flat_map, zip}
use Rattle.name_core.specs.Faults.{first}
use Rattle.name_core.specs.Names.{group_names, names_in}
use Rattle.name_core.proofs.grammar_names.groups_name.Given as goal

-- the first fault is among what is left
abbrev pub invariant-loop-k : goal.invariant-loop-k
invariant-loop-k l =
    first (flat_map (group_names l.signature (names_in l.nonterminals)) (zip (drop l.k l.nonterminals) (drop l.k l.groups)))
    ≡ first (flat_map (group_names l.signature (names_in l.nonterminals)) (zip l.nonterminals l.groups))
