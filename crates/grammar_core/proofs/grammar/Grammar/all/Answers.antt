use Rattle.std.proofs.Common.{◌≡◌, ◌∙◌, ◌+◌, ◌-◌, ◌<◌, ◌^◌, length, false, ap, sym, subst, arith}
use Rattle.std.proofs.lemmas.List.{length-replicate}
use Rattle.grammar_core.specs.Kept.{IsKept}
use Rattle.grammar_core.specs.Limits.{KeepsLimits}
use Rattle.grammar_core.specs.Marks.{AreMarks, IsClosed, IsClosedBefore, KeepsMarks, MarksReached}
use Rattle.grammar_core.specs.declared.marks.Marks.{Marks}
use Rattle.grammar_core.specs.WellFormed.{AllKnown}
use Rattle.grammar_core.specs.Whole.{whole}
use Rattle.grammar_core.specs.Languages.{IsGrammarOf}
use Rattle.grammar_core.proofs.Marking.{AreMarks-start_and, start_waits}
use Rattle.grammar_core.proofs.OfSignature.{IsGrammarOf-whole}
use Rattle.grammar_core.proofs.Filling.{IsGrammar-whole, IsKept-whole, KeepsLimits-whole, length-whole}
use Rattle.grammar_core.proofs.grammar.Grammar.all.Goals as goal

pub spread-requires-clause-fine : goal.spread-requires-clause-fine
spread-requires-clause-fine c =
    let sig = c.args.signature.now in
    let n = c.len.result - 1 in
    let few : n + 1 < 2 ^ 16 = omega (arith, c.len.ensures, c.fill.new.nonterminals.ok.0, ap length c.in_ok-fill.ensures, length-whole sig c.args.first c.requires sig.constructors, c.constructors.ensures.well_formed.few_types) in
    subst AreMarks (sym c.in_ok-marks.ensures) (AreMarks-start_and n few)

pub spread-requires-clause-known : goal.spread-requires-clause-known
spread-requires-clause-known c =
    let whole_is = c.as_slice.ensures.value ∙ c.in_ok-fill.ensures in
    subst (λ g. AllKnown g g) (sym whole_is) (IsGrammar-whole c.args.signature.now c.args.first c.requires c.constructors.ensures.well_formed).known

pub spread-requires-clause-size : goal.spread-requires-clause-size
spread-requires-clause-size c =
    let sig = c.args.signature.now in
    omega (arith, ap (λ (m : Marks). length m.flags) c.in_ok-marks.ensures, length-replicate (c.len.result - 1) false, c.len.ensures, c.fill.new.nonterminals.ok.0, ap length c.in_ok-fill.ensures, ap length c.as_slice.ensures.value, length-whole sig c.args.first c.requires sig.constructors, c.requires)

pub spread-requires-clause-closed : goal.spread-requires-clause-closed
spread-requires-clause-closed c =
    let seen = c.as_slice.result.now in
    subst (λ marks. IsClosedBefore seen marks 0) (sym c.in_ok-marks.ensures) (start_waits seen (c.len.result - 1))

pub invariant_of-result : goal.invariant_of-result
invariant_of-result c =
    let sig = c.args.signature.now in
    let first = c.args.first in
    let n = c.len.result - 1 in
    let new = c.spread.new.self in
    let seen = c.as_slice.ensures.value ∙ c.in_ok-fill.ensures in
    let count = c.from-count.ensures ∙ c.constructors.ensures.value in
    let size : length new.flags ≡ length (whole sig first) = omega (arith, c.spread.ensures.size, ap (λ (m : Marks). length m.flags) c.in_ok-marks.ensures, length-replicate n false, c.len.ensures, c.fill.new.nonterminals.ok.0, ap length c.in_ok-fill.ensures, length-whole sig first c.requires sig.constructors, c.requires) in
    let kept = subst (λ (marks : Marks). KeepsMarks marks.flags new.flags) c.in_ok-marks.ensures c.spread.ensures.kept in
    let reached = subst (λ (marks : Marks). MarksReached (whole sig first) marks.flags → MarksReached (whole sig first) new.flags) c.in_ok-marks.ensures (subst (λ g. MarksReached g c.in_ok-marks.marks.flags → MarksReached g new.flags) seen c.spread.ensures.reached) in
    let closed = subst (λ g. IsClosed g new.flags) seen c.spread.ensures.closed in
    subst (λ g. IsKept g c.from-count.result new) (sym c.in_ok-fill.ensures) (IsKept-whole sig first c.requires c.constructors.ensures.well_formed n c.from-count.result new count c.spread.ensures.fine size kept reached closed)

pub returns-clause-of_signature : goal.returns-clause-of_signature
returns-clause-of_signature c =
    let sig = c.args.signature.now in
    subst (IsGrammarOf sig) (sym c.in_ok-fill.ensures) (IsGrammarOf-whole sig c.args.first c.requires c.constructors.ensures.well_formed)

pub returns-clause-limits : goal.returns-clause-limits
returns-clause-limits c = subst KeepsLimits (sym c.in_ok-fill.ensures) (KeepsLimits-whole c.args.signature.now c.args.first c.requires c.constructors.ensures.well_formed)
