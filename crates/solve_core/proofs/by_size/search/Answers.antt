use Rattle.std.proofs.Common.{◌≡◌, [], refl, sym, ap, ◌∙◌, subst, arith}
use Rattle.solve_core.specs.Pruning.{IsLeadingAnswer}
use Rattle.solve_core.specs.Works.{Working, term_found}
use Rattle.solve_core.proofs.Pruned.{leaders_answer}
use Rattle.solve_core.proofs.Sound.{sound_is_fit}
use Rattle.solve_core.proofs.by_size.search.Goals as goal

pub find-requires-clause-grown : goal.find-requires-clause-grown
find-requires-clause-grown g c =
    let problem = c.args.problem.now in
    let empty : c.work.inside.bank ≡ [] = ap (λ (w : Working). w.bank) (c.work.view_is ∙ c.requires.new) in
    let lens = c.new-classes.ensures.lens in
    record {
      signature = subst (λ l. g.L.Lens.is_for l problem.signature) (sym lens) c.requires.signature;
      fits = subst (g.L.Lens.fits c.new-classes.result.lens) (sym empty) (subst (λ l. g.L.Lens.fits l []) (sym lens) c.requires.fits);
      stands = c.new-classes.ensures.stands problem.grammar c.work.inside.bank;
      lists_stand = λ other. ((λ n reached k low high. absurd (omega arith)), sym c.new-classes.ensures.none);
    }

pub find-requires-clause-verifies : goal.find-requires-clause-verifies
find-requires-clause-verifies g c =
    let is = c.in_ok-verifier.ensures.verifies c.work.inside.bank in
    record { problem_is = is.problem_is; height_is = refl; stands = is.stands }

pub returns-clause-leading : goal.returns-clause-leading
returns-clause-leading g c =
    let problem = c.args.problem.now in
    let n = c.args.size in
    let found = term_found c.find.new.bank c.in_ok-found.found in
    subst (λ l. IsLeadingAnswer problem c.args.height n (g.L.Lens.same_mark l) found) c.new-classes.ensures.lens
    (subst (λ h. IsLeadingAnswer problem h n (g.L.Lens.same_mark c.new-classes.result.lens) found) (c.in_ok-verifier.ensures.verifies []).height_is c.in_ok-found.ensures.leading)

pub returns-clause-answer : goal.returns-clause-answer
returns-clause-answer g c =
    let problem = c.args.problem.now in
    let height = c.args.height in
    let n = c.args.size in
    let same = g.L.Lens.same_mark c.args.lens in
    let found = term_found c.find.new.bank c.in_ok-found.found in
    let at_height = subst (λ h. IsLeadingAnswer problem h n (g.L.Lens.same_mark c.new-classes.result.lens) found) (c.in_ok-verifier.ensures.verifies []).height_is c.in_ok-found.ensures.leading in
    let leading = subst (λ l. IsLeadingAnswer problem height n (g.L.Lens.same_mark l) found) c.new-classes.ensures.lens at_height in
    let fit = sound_is_fit problem c.in_ok-verifier.ensures.sound in
    λ alike. (leaders_answer problem height n same (alike fit) fit.grammar (g.met.L.Lens.equals c.args.lens problem.signature c.requires.signature) found).0 leading
