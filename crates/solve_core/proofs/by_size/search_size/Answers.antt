use Rattle.std.proofs.Common.{◌≤◌, sym, subst, arith}
use Rattle.grammar_core.specs.Grammars.{itself}
use Rattle.class_core.specs.Standing.{ClassesStand, ListsStand, grown_of, lens_of}
use Rattle.solve_core.specs.Verifying.{IsFirstOf}
use Rattle.solve_core.proofs.Searching.{found_in_list}
use Rattle.solve_core.proofs.by_size.search_size.Goals as goal

pub grow-requires-clause-lists : goal.grow-requires-clause-lists
grow-requires-clause-lists g c =
    subst (λ grammar. ListsStand grammar c.args.bank.now (g.L.Lens.is_plain (lens_of c.args.classes.now)) c.args.lists.now (grown_of c.args.classes.now)) (sym c.grammar.ensures.value) c.requires.grown.lists_stand

pub first_of-requires-clause-live : goal.first_of-requires-clause-live
first_of-requires-clause-live g c =
    let stands = subst (λ grammar. ClassesStand g.L.Lens g.L.Mark.Ord.cmp grammar c.grow.new.bank c.grow.new.self) c.grammar.ensures.value c.in_ok-grow.ensures.stands in
    let all : c.args.size ≤ grown_of c.grow.new.self = let e = c.in_ok-grow.ensures.grown in omega arith in
    let list = c.leaders.ensures.exact c.args.problem.now.grammar c.grow.new.bank stands itself all in
    list.live

pub returns-clause-found : goal.returns-clause-found
returns-clause-found g c =
    let problem = c.args.problem.now in
    let same = g.L.Lens.same_mark (lens_of c.grow.new.self) in
    let bank = c.grow.new.bank in
    let stands = subst (λ grammar. ClassesStand g.L.Lens g.L.Mark.Ord.cmp grammar bank c.grow.new.self) c.grammar.ensures.value c.in_ok-grow.ensures.stands in
    let all : c.args.size ≤ grown_of c.grow.new.self = let e = c.in_ok-grow.ensures.grown in omega arith in
    let list = c.leaders.ensures.exact problem.grammar bank stands itself all in
    let first = subst (λ p. IsFirstOf p c.args.verifier.now.height bank c.leaders.result.now c.in_ok-found.found) c.requires.verifies.problem_is c.in_ok-found.ensures.first in
    found_in_list problem c.args.verifier.now.height same c.args.size bank c.leaders.result.now list c.in_ok-found.found first

pub returns-clause-grown : goal.returns-clause-grown
returns-clause-grown g c =
    let bank = c.grow.new.bank in
    let classes = c.grow.new.self in
    record {
      signature = subst (g.L.Lens.is_for (lens_of classes)) c.signature.ensures.value c.in_ok-grow.ensures.signature;
      fits = c.in_ok-grow.ensures.bank;
      stands = subst (λ grammar. ClassesStand g.L.Lens g.L.Mark.Ord.cmp grammar bank classes) c.grammar.ensures.value c.in_ok-grow.ensures.stands;
      lists_stand = subst (λ grammar. ListsStand grammar bank (g.L.Lens.is_plain (lens_of classes)) c.grow.new.lists (grown_of classes)) c.grammar.ensures.value c.in_ok-grow.ensures.lists;
    }
