use Rattle.std.proofs.Common.{◌≡◌, ◌-◌, ◌^◌, ◌<◌, suc, map, All, sym, ap, subst, ◌∙◌, arith, rules}
use Rattle.term_core.specs.Banks.{tree_of}
use Rattle.term_core.specs.Terms.{size}
use Rattle.answer_core.specs.Names.{constructor_at}
use Rattle.answer_core.specs.Readings.{constructor_or, term_of}
use Rattle.answer_core.proofs.Banking.{Keeps-then, all_more, both_ok, terms_more}
use Rattle.answer_core.proofs.Counting.{below_small, term_made}
use Rattle.answer_core.proofs.adding.+intern.Goals as goal

pub intern_term-intern_terms-requires : goal.intern_term-intern_terms-requires
intern_term-intern_terms-requires t c =
    let deeper : c.args.depth ≡ suc (c.args.depth - 1) = omega arith in (
      search rules,
      subst (λ forms. All (λ form. size (term_of (c.args.depth - 1) c.args.signature.now form) < 2 ^ 32) forms) (sym c.others_of.ensures)
          (below_small (2 ^ 32) c.args.depth (c.args.depth - 1) c.args.signature.now c.args.form.now deeper c.requires),
    )

pub intern_term-intern-requires-2-clause-small : goal.intern_term-intern-requires-2-clause-small
intern_term-intern-requires-2-clause-small t c =
    let deeper : c.args.depth ≡ suc (c.args.depth - 1) = omega arith in
    let term = term_made c.args.depth (c.args.depth - 1) c.args.signature.now c.args.form.now c.intern_terms.new.bank c.unwrap_or-con.result c.as_slice.result.now deeper
    (c.unwrap_or-con.ensures ∙ ap constructor_or (c.constructor_at.ensures ∙ ap (constructor_at c.args.signature.now) c.head_of.ensures))
    (ap (map (tree_of c.intern_terms.new.bank)) c.as_slice.ensures ∙ c.in_ok-kids.ensures.made.1 ∙ ap (map (term_of (c.args.depth - 1) c.args.signature.now)) c.others_of.ensures) in
    omega (arith, ap size term, c.requires)

pub intern_term-returns-clause-made : goal.intern_term-returns-clause-made
intern_term-returns-clause-made t c =
    let deeper : c.args.depth ≡ suc (c.args.depth - 1) = omega arith in
    let term = term_made c.args.depth (c.args.depth - 1) c.args.signature.now c.args.form.now c.intern_terms.new.bank c.unwrap_or-con.result c.as_slice.result.now deeper
    (c.unwrap_or-con.ensures ∙ ap constructor_or (c.constructor_at.ensures ∙ ap (constructor_at c.args.signature.now) c.head_of.ensures))
    (ap (map (tree_of c.intern_terms.new.bank)) c.as_slice.ensures ∙ c.in_ok-kids.ensures.made.1 ∙ ap (map (term_of (c.args.depth - 1) c.args.signature.now)) c.others_of.ensures) in
    both_ok c.intern-2.result _ _ _ c.intern-2.ensures.live c.intern-2.ensures.tree (λ id live tree. (live, tree ∙ term))

pub intern_terms-loop-form-preserved : goal.intern_terms-loop-form-preserved
intern_terms-loop-form-preserved t c =
    let kept = c.in_ok-id.ensures.kept in
    let more = c.in_ok-push.ensures.ok in record {
      kept = Keeps-then c.args.bank.now c.loop-form.bank c.intern_term.new.bank c.loop-form.invariant.kept kept;
      live = all_more c.loop-form.bank c.intern_term.new.bank c.loop-form.ids c.push.new.self c.in_ok-id.id kept c.loop-form.invariant.live c.in_ok-id.ensures.made.0 more;
      made = terms_more c.loop-form.bank c.intern_term.new.bank c.loop-form.ids c.push.new.self c.in_ok-id.id c.args.forms.now c.loop-form.form-index c.form-item.result (term_of c.args.depth c.args.signature.now)
          c.loop-form-test.true c.form-item.is kept c.loop-form.invariant.live more c.in_ok-id.ensures.made.1 c.loop-form.invariant.made;
    }
