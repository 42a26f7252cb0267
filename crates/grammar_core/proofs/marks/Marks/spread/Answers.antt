use Rattle.std.proofs.Common.{◌≡◌, ◌<◌, ◌∙◌, length, get_or, All, ap, refl, subst, arith}
use Rattle.std.proofs.lemmas.List.{get_or_default}
use Rattle.grammar_core.specs.declared.ids.NtId.{NtId}
use Rattle.grammar_core.specs.declared.production.Production.{Production}
use Rattle.grammar_core.specs.Grammars.{Nonterminal, blank, productions_of, start}
use Rattle.grammar_core.specs.Marks.{Grows, HasChild, IsMarked, queued_at}
use Rattle.grammar_core.proofs.Marking.{closed_all, closed_next, marked_within, reached_next}
use Rattle.grammar_core.proofs.marks.Marks.spread.Goals as goal

pub loop-place-preserved : goal.loop-place-preserved
loop-place-preserved c =
    let grammar = c.args.grammar.now in
    let place = c.loop-place.place in
    let old = c.loop-place.self in
    let new = c.mark_children.new.self in
    let n : NtId = queued_at old place in
    let number : c.from.result ≡ n.0 = c.from.ensures ∙ ap (λ queue. (get_or queue place start).0) c.as_slice.ensures in
    let on : IsMarked old.flags n = c.loop-place.invariant.fine.queued place c.loop-place-test.true in
    let within : c.from.result < length grammar = omega (arith, number, marked_within old.flags n.0 on, c.loop-place.invariant.size, c.requires.size) in
    let read : c.as_slice-in-loop-place.result.now ≡ productions_of grammar n =
    c.as_slice-in-loop-place.ensures ∙ ap (λ (x : Nonterminal). x.productions) (get_or_default grammar c.from.result c.index-grammar-from.result blank within ∙ ap (λ k. get_or grammar k blank) number) in
    let grows = subst (λ ps. Grows (HasChild ps) old new) read c.mark_children.ensures.grows in
    let marked = subst (All (λ (p : Production). All (IsMarked new.flags) p.args)) read c.mark_children.ensures.marked in record {
      fine = c.mark_children.ensures.fine;
      size = c.mark_children.ensures.size ∙ c.loop-place.invariant.size;
      kept = λ k before. grows.kept k (c.loop-place.invariant.kept k before);
      reached = λ before. reached_next grammar old new n on grows (c.loop-place.invariant.reached before);
      closed = closed_next grammar old new n place c.loop-place-test.true refl c.loop-place.invariant.closed grows marked;
    }

pub returns-clause-closed : goal.returns-clause-closed
returns-clause-closed c = closed_all c.args.grammar.now c.loop-place.self c.loop-place.place c.loop-place-test.false c.loop-place.invariant.closed
