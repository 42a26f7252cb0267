use Rattle.std.proofs.Common.{◌≡◌, ◌++◌, map, drop}
use Rattle.sort_core.specs.Relations.{param_of}
use Rattle.making_core.proofs.relations.params_of.Given as goal

-- what is left makes the rest
abbrev pub invariant-loop-pair : goal.invariant-loop-pair
invariant-loop-pair l = l.params ++ map (param_of l.signature l.inputs) (drop l.pair-index l.pairs) ≡ map (param_of l.signature l.inputs) l.pairs
