-- The expression of each kind of node.
use Rattle.std.proofs.Common.{◌≡◌, ℕ, false, List, map, rules}
use Rattle.sig_core.specs.declared.ids.RelId.{RelId}
use Rattle.sig_core.specs.declared.value.Value.TheVariants as value
use Rattle.expr_core.specs.declared.expr.Expr as expr
use Rattle.expr_core.specs.declared.expr.Op.{Op}
use Rattle.rule_core.specs.declared.rule.Who.{Who}
use Rattle.syntax_core.specs.declared.literal.Literal.{Literal}
use Rattle.sort_core.specs.declared.open.OpenExp.{OpenExp}
use Rattle.sort_core.specs.declared.open.OpenNode.{the_lemmas}
use Rattle.sort_core.specs.declared.open.OpenNode as node
use Rattle.making_core.specs.Rules.{expr_of, expr_of_node, value_of_literal}

pub expr-Slot : (k : ℕ) → expr_of_node (node.Slot k) ≡ expr.Slot k
expr-Slot k = search (rules, the_lemmas)

pub expr-Term : (who : Who) → expr_of_node (node.Term who) ≡ expr.Lit (value.Bool false)
expr-Term who = search (rules, the_lemmas)

pub expr-Literal : (digits : ℕ) (literal : Literal) → expr_of_node (node.Literal digits literal) ≡ expr.Lit (value_of_literal literal)
expr-Literal digits literal = search (rules, the_lemmas)

pub expr-Apply : (op : Op) (kids : List OpenExp) → expr_of_node (node.Apply op kids) ≡ expr.Apply op (map expr_of kids)
expr-Apply op kids = search (rules, the_lemmas)

pub expr-Call : (relation : RelId) (args : List OpenExp) → expr_of_node (node.Call relation args) ≡ expr.Lit (value.Bool false)
expr-Call relation args = search (rules, the_lemmas)

pub ruleset exprs = (expr-Slot, expr-Term, expr-Literal, expr-Apply, expr-Call)
