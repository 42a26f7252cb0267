use Rattle.std.proofs.Common.{◌≡◌, ◌+◌, ◌*◌, drop, nat_eq, ◌&&◌}
use Rattle.std.specs.List.{list_any}
use lib.Pointwise.{pointwise}
use Rattle.grammar_core.specs.Grammars.{is_member}
use Rattle.term_core.specs.Banks.{tree_of}
use Rattle.term_core.specs.Terms.{kids_of}
use Rattle.grammar_core.proofs.by_productions.+search.Given as goal

abbrev pub decreases-is_produced : goal.decreases-is_produced
decreases-is_produced l = 2 * l.id.0 + 1

abbrev pub decreases-are_produced : goal.decreases-are_produced
decreases-are_produced l = 2 * l.id.0

abbrev pub invariant-is_produced-loop-production : goal.invariant-is_produced-loop-production
invariant-is_produced-loop-production l =
    list_any (λ p. nat_eq p.con.0 l.con.0 && pointwise (is_member l.grammar) (kids_of (tree_of l.bank l.id)) p.args) (drop l.production-index l.production-items)
    ≡ list_any (λ p. nat_eq p.con.0 l.con.0 && pointwise (is_member l.grammar) (kids_of (tree_of l.bank l.id)) p.args) l.production-items

abbrev pub invariant-are_produced-loop-i : goal.invariant-are_produced-loop-i
invariant-are_produced-loop-i l =
    pointwise (λ kid n. is_member l.grammar (tree_of l.bank kid) n) (drop l.i l.kids) (drop l.i l.args) ≡ pointwise (λ kid n. is_member l.grammar (tree_of l.bank kid) n) l.kids l.args
