use Rattle.std.proofs.Common.{◌≡◌, ◌++◌, map, drop}
use Rattle.std.specs.List.{flat_map}
use Rattle.sexpr_core.specs.Access.{parts_of}
use Rattle.syntax_core.specs.Syntax.{pattern_of}
use Rattle.syntax_core.proofs.grammars.constructors_in.Given as goal

-- what is left makes the rest
abbrev pub invariant-loop-group : goal.invariant-loop-group
invariant-loop-group l =
    l.patterns ++ map pattern_of (flat_map parts_of (drop l.group-index l.groups)) ≡ map pattern_of (flat_map parts_of l.groups)
