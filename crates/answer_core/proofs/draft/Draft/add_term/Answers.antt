use Rattle.std.proofs.Common.{Some, Ok, sym, ap, ◌∙◌, arith}
use Rattle.sexpr_core.specs.Access.{item_of}
use Rattle.term_core.specs.Terms.{size}
use Rattle.answer_core.specs.Readings.{term_of}
use Rattle.answer_core.proofs.Banking.{map_kept, same_told, steps_kept}
use Rattle.answer_core.proofs.Counting.{item_below, term_below}
use Rattle.answer_core.proofs.draft.Draft.add_term.Goals as goal

pub intern_term-requires : goal.intern_term-requires
intern_term-requires c =
    omega (arith, ap (λ form. size (term_of 200 c.args.signature.now form)) c.item_of-term.ensures, term_below 200 c.args.signature.now (item_of 1 c.args.form.now), item_below 1 c.args.form.now, c.requires.small.0)

pub returns-clause-told : goal.returns-clause-told
returns-clause-told c =
    let self = c.args.self.now in
    let kept = c.in_ok-id.ensures.kept in
    ap Ok (same_told self.due _ _ self.size _ _ _ _ _
    (ap Some (sym (c.in_ok-id.ensures.made.1 ∙ ap (term_of 200 c.args.signature.now) c.item_of-term.ensures)))
    (sym (map_kept self.bank c.intern_term.new.bank self.nodes kept c.requires.sound.nodes))
    (sym (steps_kept self.bank c.intern_term.new.bank self.steps kept c.requires.sound.steps)))
