use Rattle.std.proofs.Common.{◌∙◌, take, All, Contains, sym, subst}
use Rattle.std.proofs.lemmas.List.{take_all}
use Rattle.std.proofs.lemmas.List.Elements.{All-more, All-weaker}
use Rattle.grammar_core.specs.declared.production.Production.{Production}
use Rattle.grammar_core.specs.Marks.{HasChild, IsMarked}
use Rattle.grammar_core.proofs.Marking.{Grows-then, Grows-weaker}
use Rattle.grammar_core.proofs.marks.Marks.mark_children.Goals as goal

pub loop-production-preserved : goal.loop-production-preserved
loop-production-preserved c =
    let productions = c.args.productions.now in
    let i = c.loop-production.production-index in
    let old = c.loop-production.self in
    let new = c.mark_all.new.self in
    let p = c.production-item.result in
    let stands : Contains productions p = (i, c.loop-production-test.true, sym c.production-item.is) in
    let one = Grows-weaker (Contains c.as_slice.result.now) (HasChild productions) (λ k child. (p, stands, subst (λ args. Contains args k) c.as_slice.ensures child)) old new c.mark_all.ensures.grows in
    let here = subst (λ (q : Production). All (IsMarked new.flags) q.args) c.production-item.is (subst (All (IsMarked new.flags)) c.as_slice.ensures c.mark_all.ensures.marked) in record {
      fine = c.mark_all.ensures.fine;
      size = c.mark_all.ensures.size ∙ c.loop-production.invariant.size;
      marked = All-more (λ (q : Production). All (IsMarked new.flags) q.args) productions i p c.loop-production-test.true
          (All-weaker (λ (q : Production). All (IsMarked old.flags) q.args) (λ (q : Production). All (IsMarked new.flags) q.args) (λ q. All-weaker (IsMarked old.flags) (IsMarked new.flags) (λ k. one.kept k) q.args) (take i productions) c.loop-production.invariant.marked) here;
      grows = Grows-then (HasChild productions) c.args.self.now old new c.loop-production.invariant.grows one;
    }

pub returns-clause-marked : goal.returns-clause-marked
returns-clause-marked c =
    subst (All (λ (q : Production). All (IsMarked c.loop-production.self.flags) q.args)) (take_all c.loop-production.production-index c.args.productions.now c.loop-production-test.false) c.loop-production.invariant.marked
