use Rattle.std.proofs.Common.{◌≡◌, map, drop}
use Rattle.syntax_core.specs.Syntax.{items_at}
use Rattle.making_core.specs.Fitting.{GroupsFit, with_groups}
use Rattle.making_core.specs.Making.{production_of}
use Rattle.making_core.proofs.grammars.add_groups.Given as goal

-- what is left fits, and makes the rest
abbrev pub invariant-loop-group : goal.invariant-loop-group
invariant-loop-group l =
    (with_groups l.grammar l.number (map (λ group. map (production_of l.signature l.nonterminals) (items_at 2 group)) (drop l.group-index l.groups))
    ≡ with_groups l.initial.grammar 0 (map (λ group. map (production_of l.signature l.nonterminals) (items_at 2 group)) l.groups))
    × GroupsFit l.signature l.grammar l.number (map (λ group. map (production_of l.signature l.nonterminals) (items_at 2 group)) (drop l.group-index l.groups))
    × (l.number ≡ l.group-index)
