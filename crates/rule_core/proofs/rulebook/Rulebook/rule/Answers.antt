use Rattle.std.proofs.Common.{[], slice_get, sym, ap, ◌∙◌}
use Rattle.std.specs.Option.{option_and_then}
use Rattle.rule_core.specs.Numbers.{is_for}
use Rattle.tables.proofs.Places.{nth-places}
use Rattle.rule_core.proofs.rulebook.Rulebook.rule.Goals as goal

pub returns : goal.returns
returns c =
    let are = c.list_at.ensures ∙ c.self.invariant.1.of_pairs (c.args.relation.0, c.args.con.0) in
    let rules = c.self.inside.rules in
    c.numbered.ensures ∙ rw (← c.self.view_is) (ap (λ numbers. option_and_then (slice_get rules) (slice_get numbers c.args.k)) are ∙ sym (nth-places (is_for (c.args.relation.0, c.args.con.0)) [] rules c.args.k))
