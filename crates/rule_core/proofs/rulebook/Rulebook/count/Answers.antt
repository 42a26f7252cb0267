use Rattle.std.proofs.Common.{length, ap, ◌∙◌, arith}
use Rattle.rule_core.specs.Numbers.{is_for}
use Rattle.tables.proofs.Places.{length-places, places_few}
use Rattle.rule_core.proofs.rulebook.Rulebook.count.Goals as goal

pub overflow_cast-result : goal.overflow_cast-result
overflow_cast-result c =
    let are = ap length (c.list_at.ensures ∙ c.self.invariant.1.of_pairs (c.args.relation.0, c.args.con.0)) in
    let few = places_few (is_for (c.args.relation.0, c.args.con.0)) 0 c.self.inside.rules in
    let short = c.self.invariant.0 in
    omega (arith, are, few, short)

pub returns : goal.returns
returns c = rw (← c.self.view_is) (ap length (c.list_at.ensures ∙ c.self.invariant.1.of_pairs (c.args.relation.0, c.args.con.0)) ∙ length-places (is_for (c.args.relation.0, c.args.con.0)) 0 c.self.inside.rules)
