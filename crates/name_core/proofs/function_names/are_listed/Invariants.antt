use Rattle.std.proofs.Common.{◌≡◌, drop}
use Rattle.std.specs.List.{list_all}
use Rattle.name_core.specs.Names.{has, names_in, plain_pairs, texts}
use Rattle.name_core.proofs.function_names.are_listed.Given as goal

-- what is left decides
abbrev pub invariant-loop-pair : goal.invariant-loop-pair
invariant-loop-pair l =
    list_all (has (texts l.names)) (names_in (plain_pairs (drop l.pair-index l.params))) ≡ list_all (has (texts l.names)) (names_in (plain_pairs l.params))
