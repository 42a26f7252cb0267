use Rattle.std.proofs.Common.{◌≡◌, map, drop}
use Rattle.making_core.specs.Fitting.{RelationsFit}
use Rattle.sort_core.specs.Relations.{declared_with, relation_of}
use Rattle.making_core.proofs.relations.add_relations.Given as goal

-- what is left fits, and makes the rest
abbrev pub invariant-loop-function : goal.invariant-loop-function
invariant-loop-function l =
    (declared_with l.signature (drop l.function-index l.functions) ≡ declared_with l.initial.signature l.functions)
    × RelationsFit l.signature (map (relation_of l.signature) (drop l.function-index l.functions))
