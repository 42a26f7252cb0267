use Rattle.std.proofs.Common.{◌∙◌, length, map, sym, ap, subst}
use Rattle.std.proofs.lemmas.List.{length-map}
use Rattle.lens_core.specs.Lenses.{risen}
use Rattle.term_core.specs.Banks.{tree_of}
use Rattle.class_core.specs.Sources.{AreCandidateIds, KeepsLaw}
use Rattle.class_core.proofs.Classing.{candidate_terms, candidates_typed, kept_are_leaders, more_known}
use Rattle.class_core.proofs.levels.leaders_of.Goals as goal
use Rattle.class_core.proofs.levels.leaders_of.Goals.{In_ok-candidates, In_ok-kept}

law : (g : _) (c : In_ok-candidates g) → KeepsLaw c.args.signature.now c.args.grammar.now (g.L.Lens.same_mark c.args.lens.now) (g.L.Lens.is_plain c.args.lens.now)
law g c = record {
  grammar_fits = c.requires.fits;
  equals = g.met.L.Lens.equals c.args.lens.now c.args.signature.now c.requires.signature;
  congruent = g.met.L.Lens.congruent c.args.lens.now c.args.signature.now c.requires.signature;
}

pub first_of_each-requires-clause-terms : goal.first_of_each-requires-clause-terms
first_of_each-requires-clause-terms g c' =
    let c = (goal.at.first_of_each-requires-clause-terms g c').In_ok-candidates in (
      c.args.signature.now,
      c.requires.signature,
      candidates_typed c.args.signature.now c.args.grammar.now (g.L.Lens.same_mark c.args.lens.now) (g.L.Lens.is_plain c.args.lens.now) (law g c) c.candidates_of.new.bank c.args.nt c.args.size c'.as_slice.result.now
          (subst (AreCandidateIds c.args.grammar.now c.candidates_of.new.bank (g.L.Lens.same_mark c.args.lens.now) (g.L.Lens.is_plain c.args.lens.now) c.args.nt c.args.size) (sym c'.as_slice.ensures) c.in_ok-candidates.ensures.candidates),
    )

-- the candidates that were looked at
are : (g : _) (c : In_ok-kept g) → AreCandidateIds c.args.grammar.now c.candidates_of.new.bank (g.L.Lens.same_mark c.args.lens.now) (g.L.Lens.is_plain c.args.lens.now) c.args.nt c.args.size c.as_slice.result.now
are g c = subst (AreCandidateIds c.args.grammar.now c.candidates_of.new.bank (g.L.Lens.same_mark c.args.lens.now) (g.L.Lens.is_plain c.args.lens.now) c.args.nt c.args.size) (sym c.as_slice.ensures) c.in_ok-candidates.ensures.candidates

law_kept : (g : _) (c : In_ok-kept g) → KeepsLaw c.args.signature.now c.args.grammar.now (g.L.Lens.same_mark c.args.lens.now) (g.L.Lens.is_plain c.args.lens.now)
law_kept g c = record {
  grammar_fits = c.requires.fits;
  equals = g.met.L.Lens.equals c.args.lens.now c.args.signature.now c.requires.signature;
  congruent = g.met.L.Lens.congruent c.args.lens.now c.args.signature.now c.requires.signature;
}

pub returns-clause-leaders : goal.returns-clause-leaders
returns-clause-leaders g c' =
    let c = (goal.at.returns-clause-leaders g c').In_ok-kept in
    kept_are_leaders c.args.signature.now c.args.grammar.now (g.L.Lens.same_mark c.args.lens.now) (g.L.Lens.is_plain c.args.lens.now) (law_kept g c) (g.L.Lens.has_mark c.args.lens.now) g.L.Mark.Ord.cmp c.args.marks.now c.first_of_each.new.marks
    c.candidates_of.new.bank c.args.nt (length c.args.leaders.now) c.args.size c.requires.next c.as_slice.result.now c.in_ok-kept.kept (are g c) c.in_ok-kept.ensures.kept c.requires.marks c.in_ok-kept.ensures.live

pub returns-clause-marks : goal.returns-clause-marks
returns-clause-marks g c' =
    let c = (goal.at.returns-clause-marks g c').In_ok-kept in
    more_known c.args.signature.now c.args.grammar.now (g.L.Lens.same_mark c.args.lens.now) (g.L.Lens.is_plain c.args.lens.now) (law_kept g c) (g.L.Lens.has_mark c.args.lens.now) g.L.Mark.Ord.cmp c.args.marks.now c.first_of_each.new.marks
    c.candidates_of.new.bank c.args.nt (length c.args.leaders.now) c.args.size c.requires.next c.as_slice.result.now c.in_ok-kept.kept (are g c) c.in_ok-kept.ensures.kept c.requires.marks

pub returns-clause-looks : goal.returns-clause-looks
returns-clause-looks g c' =
    let c = (goal.at.returns-clause-looks g c').In_ok-kept in
    record {
      terms = map (tree_of c.candidates_of.new.bank) c.as_slice.result.now;
      candidates = candidate_terms c.args.grammar.now c.candidates_of.new.bank (g.L.Lens.same_mark c.args.lens.now) (g.L.Lens.is_plain c.args.lens.now) c.args.nt c.args.size c.as_slice.result.now (are g c);
      looks = c.in_ok-kept.ensures.looks ∙ ap (risen (g.L.Lens.looked c.args.lens.now)) (sym (length-map c.as_slice.result.now (tree_of c.candidates_of.new.bank)));
    }
