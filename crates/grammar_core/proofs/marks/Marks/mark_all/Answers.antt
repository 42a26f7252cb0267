use Rattle.std.proofs.Common.{◌≡◌, ◌∙◌, get_or, take, All, Contains, sym, subst}
use Rattle.std.proofs.lemmas.List.{take_all}
use Rattle.std.proofs.lemmas.List.Elements.{All-more, All-weaker, Contains-get_or}
use Rattle.grammar_core.specs.declared.ids.NtId.{NtId}
use Rattle.grammar_core.specs.Grammars.{start}
use Rattle.grammar_core.specs.Marks.{IsMarked}
use Rattle.grammar_core.proofs.Marking.{Grows-then, Grows-weaker}
use Rattle.grammar_core.proofs.marks.Marks.mark_all.Goals as goal

pub loop-arg-preserved : goal.loop-arg-preserved
loop-arg-preserved c =
    let args = c.args.args.now in
    let i = c.loop-arg.arg-index in
    let old = c.loop-arg.self in
    let new = c.mark.new.self in
    let arg : NtId = get_or args i start in
    let one = Grows-weaker (λ k. k ≡ arg) (Contains args) (λ k e. subst (Contains args) (sym e) (Contains-get_or args i start c.loop-arg-test.true)) old new c.mark.ensures.grows in record {
      fine = c.mark.ensures.fine;
      size = c.mark.ensures.size ∙ c.loop-arg.invariant.size;
      marked = All-more (IsMarked new.flags) args i start c.loop-arg-test.true (All-weaker (IsMarked old.flags) (IsMarked new.flags) (λ k. one.kept k) (take i args) c.loop-arg.invariant.marked) c.mark.ensures.marked;
      grows = Grows-then (Contains args) c.args.self.now old new c.loop-arg.invariant.grows one;
    }

pub returns-clause-marked : goal.returns-clause-marked
returns-clause-marked c = subst (All (IsMarked c.loop-arg.self.flags)) (take_all c.loop-arg.arg-index c.args.args.now c.loop-arg-test.false) c.loop-arg.invariant.marked
