use Rattle.std.proofs.Common.{◌≡◌, ◌+◌, ◌++◌, drop}
use Rattle.std.specs.List.{flat_map, enumerate_from}
use Rattle.making_core.specs.Making.{constructors_of}
use Rattle.making_core.proofs.types.constructors_of.Given as goal

-- what is left makes the rest
abbrev pub invariant-loop-group : goal.invariant-loop-group
invariant-loop-group l =
    (l.cons ++ flat_map (constructors_of l.signature) (enumerate_from l.owner (drop l.group-index l.groups)) ≡ flat_map (constructors_of l.signature) (enumerate_from l.first l.groups))
    × (l.owner ≡ l.first + l.group-index)
