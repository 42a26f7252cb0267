use Rattle.std.proofs.Common.{[], slice_get, sym, ap, ◌∙◌}
use Rattle.std.specs.Option.{option_and_then}
use Rattle.rule_core.specs.Numbers.{is_of}
use Rattle.tables.proofs.Places.{nth-places}
use Rattle.rule_core.proofs.rulebook.Rulebook.of_relation.Goals as goal

pub returns : goal.returns
returns c =
    let are = c.list_at.ensures ∙ c.self.invariant.1.of_relations c.args.relation.0 in
    let rules = c.self.inside.rules in
    c.numbered.ensures ∙ rw (← c.self.view_is) (ap (λ numbers. option_and_then (slice_get rules) (slice_get numbers c.args.k)) are ∙ sym (nth-places (is_of c.args.relation.0) [] rules c.args.k))
