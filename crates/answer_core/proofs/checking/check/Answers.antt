use Rattle.std.proofs.Common.{◌≡◌, true, false, map, sym, ap, subst, ◌∙◌}
use Rattle.term_core.specs.Banks.{tree_of}
use Rattle.grammar_core.specs.Grammars.{is_member, start}
use Rattle.deriv_core.specs.Steps.{IsFirstBad, IsValid}
use Rattle.answer_core.specs.Answers.{tree_answer}
use Rattle.answer_core.specs.Subterms.{are_subterms}
use Rattle.answer_core.specs.Verdicts.{Passes}
use Rattle.answer_core.proofs.Judging.{each_test, four_before, invalid, none_before, one_before, solves, three_before, two_before, unmet_fails}
use Rattle.answer_core.proofs.Listing.{are_subterms-Decides}
use Rattle.answer_core.proofs.checking.check.Goals as goal

pub returns-then-not-are_subterms-clause-verdict : goal.returns-then-not-are_subterms-clause-verdict
returns-then-not-are_subterms-clause-verdict c =
    let answer = tree_answer c.args.answer.now in
    let tested = ap (λ ids. are_subterms answer.term (map (tree_of c.args.answer.now.bank) ids)) (sym c.as_slice.ensures) ∙ sym c.are_subterms.ensures ∙ c.if-not-are_subterms.true in record {
      passes = none_before (Passes c.args.problem.now c.args.height answer);
      fails = λ nodes. (let both : false ≡ true = sym tested ∙ (are_subterms-Decides answer.term answer.nodes).1 nodes in cc);
    }

pub returns-then-from-answer-clause-verdict : goal.returns-then-from-answer-clause-verdict
returns-then-from-answer-clause-verdict c =
    let answer = tree_answer c.args.answer.now in
    let tested = ap (λ ids. are_subterms answer.term (map (tree_of c.args.answer.now.bank) ids)) (sym c.as_slice.ensures) ∙ sym c.are_subterms.ensures ∙ c.if-not-are_subterms.false in record {
      passes = one_before (Passes c.args.problem.now c.args.height answer) ((are_subterms-Decides answer.term answer.nodes).0 tested);
      fails = λ same. c.if-from-answer.true (c.from.ensures ∙ c.size.ensures ∙ sym same);
    }

pub returns-then-not-member-clause-verdict : goal.returns-then-not-member-clause-verdict
returns-then-not-member-clause-verdict c =
    let answer = tree_answer c.args.answer.now in
    let tested = ap (λ ids. are_subterms answer.term (map (tree_of c.args.answer.now.bank) ids)) (sym c.as_slice.ensures) ∙ sym c.are_subterms.ensures ∙ c.if-not-are_subterms.false in
    let size_is = sym c.if-from-answer.false ∙ c.from.ensures ∙ c.size.ensures in
    let member = ap (λ g. is_member g answer.term start) (sym c.grammar.ensures.value) ∙ sym c.member.ensures ∙ c.if-not-member.true in record {
      passes = two_before (Passes c.args.problem.now c.args.height answer) ((are_subterms-Decides answer.term answer.nodes).0 tested) size_is;
      fails = λ lang. (let both : false ≡ true = sym member ∙ lang in cc);
    }

pub returns-in-Err-clause-verdict : goal.returns-in-Err-clause-verdict
returns-in-Err-clause-verdict c =
    let problem = c.args.problem.now in
    let answer = tree_answer c.args.answer.now in
    let tested = ap (λ ids. are_subterms answer.term (map (tree_of c.args.answer.now.bank) ids)) (sym c.as_slice.ensures) ∙ sym c.are_subterms.ensures ∙ c.if-not-are_subterms.false in
    let size_is = sym c.if-from-answer.false ∙ c.from.ensures ∙ c.size.ensures in
    let member = ap (λ g. is_member g answer.term start) (sym c.grammar.ensures.value) ∙ sym c.member.ensures ∙ c.if-not-member.false in
    let bad = subst (λ rules. IsFirstBad problem.signature rules c.args.height answer.steps c.in-Err.bad) c.rulebook.ensures.value
    (subst (λ sig. IsFirstBad sig c.rulebook.result.now c.args.height answer.steps c.in-Err.bad) c.signature.ensures.value c.in-Err.ensures) in (
      record {
        passes = three_before (Passes problem c.args.height answer) ((are_subterms-Decides answer.term answer.nodes).0 tested) size_is member;
        fails = invalid problem.signature problem.rules c.args.height answer.steps c.in-Err.bad bad;
      },
      bad,
    )

pub returns-in-Some-clause-verdict : goal.returns-in-Some-clause-verdict
returns-in-Some-clause-verdict c =
    let problem = c.args.problem.now in
    let answer = tree_answer c.args.answer.now in
    let tested = ap (λ ids. are_subterms answer.term (map (tree_of c.args.answer.now.bank) ids)) (sym c.as_slice.ensures) ∙ sym c.are_subterms.ensures ∙ c.if-not-are_subterms.false in
    let size_is = sym c.if-from-answer.false ∙ c.from.ensures ∙ c.size.ensures in
    let member = ap (λ g. is_member g answer.term start) (sym c.grammar.ensures.value) ∙ sym c.member.ensures ∙ c.if-not-member.false in
    let valid = subst (λ rules. IsValid problem.signature rules c.args.height answer.steps) c.rulebook.ensures.value
    (subst (λ sig. IsValid sig c.rulebook.result.now c.args.height answer.steps) c.signature.ensures.value c.in_default.ensures) in (
      record {
        passes = four_before (Passes problem c.args.height answer) ((are_subterms-Decides answer.term answer.nodes).0 tested) size_is member valid;
        fails = unmet_fails problem answer c.in-Some.number c.in-Some.ensures;
      },
      c.in-Some.ensures,
    )

pub returns-in-None-clause-verdict : goal.returns-in-None-clause-verdict
returns-in-None-clause-verdict c =
    let problem = c.args.problem.now in
    let answer = tree_answer c.args.answer.now in
    let tested = ap (λ ids. are_subterms answer.term (map (tree_of c.args.answer.now.bank) ids)) (sym c.as_slice.ensures) ∙ sym c.are_subterms.ensures ∙ c.if-not-are_subterms.false in
    let size_is = sym c.if-from-answer.false ∙ c.from.ensures ∙ c.size.ensures in
    let member = ap (λ g. is_member g answer.term start) (sym c.grammar.ensures.value) ∙ sym c.member.ensures ∙ c.if-not-member.false in
    let valid = subst (λ rules. IsValid problem.signature rules c.args.height answer.steps) c.rulebook.ensures.value
    (subst (λ sig. IsValid sig c.rulebook.result.now c.args.height answer.steps) c.signature.ensures.value c.in_default.ensures) in
    each_test (Passes problem c.args.height answer) ((are_subterms-Decides answer.term answer.nodes).0 tested) size_is member valid c.in-None.ensures

pub returns-in-None-clause-solves : goal.returns-in-None-clause-solves
returns-in-None-clause-solves c is_valid =
    let problem = c.args.problem.now in
    let answer = tree_answer c.args.answer.now in
    let valid = subst (λ rules. IsValid problem.signature rules c.args.height answer.steps) c.rulebook.ensures.value
    (subst (λ sig. IsValid sig c.rulebook.result.now c.args.height answer.steps) c.signature.ensures.value c.in_default.ensures) in
    solves problem c.args.height answer valid c.in-None.ensures
