use Rattle.std.proofs.Common.{◌≡◌, ◌≤◌, ◌∙◌, true, false, sym, subst, arith}
use Rattle.std.specs.Option.{is_some}
use Rattle.class_core.specs.Standing.{lens_of}
use Rattle.solve_core.specs.Searching.{AreGrown, IsFoundOfSize}
use Rattle.solve_core.proofs.Growing.{answer_found, goes_on, live_found, looks_found, nothing_searched}
use Rattle.solve_core.proofs.by_size.find.Goals as goal

pub loop-k-init : goal.loop-k-init
loop-k-init g c = record {
  grown = subst (AreGrown g.L.Lens g.L.Mark.Ord.cmp c.args.problem.now c.args.bank.now c.args.classes.now) (sym c.new-lists.ensures.empty) c.requires.grown;
  searched = nothing_searched g.L.Lens c.args.problem.now c.args.verifier.now.height c.args.classes.now c.requires.none c.requires.unused;
  verifies = c.requires.verifies;
}

pub loop-k-preserved : goal.loop-k-preserved
loop-k-preserved g c =
    let problem = c.args.problem.now in
    let height = c.args.verifier.now.height in
    let old = c.loop-k.classes in
    let new = c.search_size.new.classes in
    let bank = c.search_size.new.bank in
    let is = c.in_ok-found.ensures in
    let found = subst (λ h. IsFoundOfSize problem h (g.L.Lens.same_mark (lens_of new)) c.loop-k.k bank c.in_ok-found.found) c.loop-k.invariant.verifies.height_is is.found in
    let is_none : is_some c.in_ok-found.found ≡ false = sym c.is_some.ensures ∙ c.if-is_some.false in
    record {
      grown = is.grown;
      searched = goes_on g.L.Lens problem height (lens_of c.args.classes.now) old new c.loop-k.k c.loop-k.invariant.searched is.size is.meaning is.looks bank c.in_ok-found.found is_none found;
      verifies = record { problem_is = is.verifies.problem_is; height_is = is.verifies.height_is ∙ c.loop-k.invariant.verifies.height_is; stands = is.verifies.stands };
    }

pub returns-then-is_some-clause-live : goal.returns-then-is_some-clause-live
returns-then-is_some-clause-live g c =
    live_found c.args.problem.now c.loop-k.verifier.height (g.L.Lens.same_mark (lens_of c.search_size.new.classes)) c.loop-k.k c.search_size.new.bank c.in_ok-found.found c.in_ok-found.ensures.found

pub returns-then-is_some-clause-leading : goal.returns-then-is_some-clause-leading
returns-then-is_some-clause-leading g c =
    let problem = c.args.problem.now in
    let new = c.search_size.new.classes in
    let bank = c.search_size.new.bank in
    let is = c.in_ok-found.ensures in
    let found = subst (λ h. IsFoundOfSize problem h (g.L.Lens.same_mark (lens_of new)) c.loop-k.k bank c.in_ok-found.found) c.loop-k.invariant.verifies.height_is is.found in
    let is_one : is_some c.in_ok-found.found ≡ true = sym c.is_some.ensures ∙ c.if-is_some.true in
    let few : c.loop-k.k ≤ c.args.size = omega (arith, c.loop-k-test.true) in
    answer_found g.L.Lens problem c.args.verifier.now.height (lens_of c.args.classes.now) c.loop-k.classes new c.loop-k.k c.loop-k.invariant.searched is.size is.meaning is.looks c.args.size few bank c.in_ok-found.found is_one found

pub returns-then-is_some-clause-looks : goal.returns-then-is_some-clause-looks
returns-then-is_some-clause-looks g c =
    let problem = c.args.problem.now in
    let new = c.search_size.new.classes in
    let bank = c.search_size.new.bank in
    let is = c.in_ok-found.ensures in
    let found = subst (λ h. IsFoundOfSize problem h (g.L.Lens.same_mark (lens_of new)) c.loop-k.k bank c.in_ok-found.found) c.loop-k.invariant.verifies.height_is is.found in
    let is_one : is_some c.in_ok-found.found ≡ true = sym c.is_some.ensures ∙ c.if-is_some.true in
    looks_found g.L.Lens problem c.args.verifier.now.height (lens_of c.args.classes.now) c.loop-k.classes new c.loop-k.k c.loop-k.invariant.searched is.size is.meaning is.looks c.args.size bank c.in_ok-found.found is_one found
