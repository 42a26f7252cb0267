use Rattle.std.proofs.Common.{◌∙◌, sym}
use Rattle.grammar_core.proofs.Marking.{closed_after, closed_unmarked, reached_after}
use Rattle.grammar_core.proofs.marks.Marks.follow.Goals as goal

pub returns-then-not-has-clause-closed : goal.returns-then-not-has-clause-closed
returns-then-not-has-clause-closed c = closed_unmarked c.args.grammar.now c.args.self.now.flags c.args.n c.args.args.now (sym c.has.ensures ∙ c.if-not-has.true) c.requires.closed

pub spread-requires-clause-closed : goal.spread-requires-clause-closed
spread-requires-clause-closed c =
    closed_after c.args.grammar.now c.args.self.now c.mark_all.new.self c.args.n c.args.args.now c.requires.closed c.mark_all.ensures.grows c.mark_all.ensures.marked

pub returns-clause-reached : goal.returns-clause-reached
returns-clause-reached c =
    λ before. c.spread.ensures.reached
    (reached_after c.args.grammar.now c.args.self.now c.mark_all.new.self c.args.n c.args.args.now (sym c.has.ensures ∙ c.if-not-has.false) c.requires.leads c.mark_all.ensures.grows before)
