use Rattle.std.proofs.Common.{◌<◌, ◌^◌, [], ◌∷◌, sym, subst, arith}
use Rattle.term_core.specs.Terms.{node, size}
use Rattle.term_core.specs.Typings.{IsTermOf}
use Rattle.eval_core.specs.ShiftExample.{shift_con, shifts}
use Rattle.marks_tests.proofs.Typed.{shift_is_term, shift_small}
use Rattle.marks_tests.proofs.marks.shift.Goals as goal

pub intern-requires-clause-small : goal.intern-requires-clause-small
intern-requires-clause-small c =
    subst (λ t. size (node shift_con (t ∷ [])) < 2 ^ 32) (sym c.in_ok-kid.ensures.tree) (let two = shift_small c.args.con in omega (arith, two))

pub returns-clause-terms : goal.returns-clause-terms
returns-clause-terms c =
    c.intern.ensures.of_signature shifts (subst (λ t. IsTermOf shifts (node shift_con (t ∷ []))) (sym c.in_ok-kid.ensures.tree) (shift_is_term c.args.con c.requires.con)) c.in_ok-kid.ensures.terms
