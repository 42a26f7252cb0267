use Rattle.std.proofs.Common.{◌≡◌, ◌+◌, ◌∷◌, ◌++◌, ◌∙◌, drop, sym, ap, arith}
use Rattle.std.proofs.lemmas.List.{drop_more}
use Rattle.sig_core.specs.Names.{symbol_text}
use Rattle.problem_core.specs.Modes.{is_of}
use Rattle.problem_core.specs.Texts.{names_where, symbol_form}
use Rattle.problem_core.proofs.Forms.{symbol}
use Rattle.problem_core.proofs.Kept.{named_at, not_named, put_kept, put_none}
use Rattle.problem_core.proofs.rule_texts.put_names_of_mode.Goals as goal
use Rattle.problem_core.proofs.rule_texts.put_names_of_mode.Goals.{then-is_of+in_ok-put_gap+in_ok-put_symbol, else-is_of}

pub loop-param-preserved : goal.loop-param-preserved
loop-param-preserved c =
    let params = c.args.params.now in
    let i = c.loop-param.param-index in
    let x = c.param-item.result in
    let test = is_of c.args.mode in
    let all = names_where test params in
    let left = names_where test (drop i params) in
    let rest = names_where test (drop (i + 1) params) in
    let here : drop i params ≡ x ∷ drop (i + 1) params = drop_more params i x c.loop-param-test.true ∙ ap (λ p. p ∷ drop (i + 1) params) (sym c.param-item.is) in
    elim c.if-is_of.branch [
      | then-is_of+in_ok-put_gap+in_ok-put_symbol w ↦ (
        omega (arith, c.loop-param.invariant.0, w.place-is),
        put_kept symbol_form all c.loop-param.place x.name left rest c.args.out.now c.loop-param.out w.put_gap.new.out w.put_symbol.new.out
            (named_at test x (drop i params) (drop (i + 1) params) here (sym c.is_of.ensures ∙ w.if-is_of.true)) c.loop-param.invariant.1 w.in_ok-put_gap.ensures
            (w.in_ok-put_symbol.ensures.ok ∙ ap (λ name. w.put_gap.new.out ++ symbol_text name) w.as_slice.ensures ∙ ap (λ text. w.put_gap.new.out ++ text) (sym (symbol x.name))) w.place-is w.out-is,
      )
      | else-is_of w ↦ (
        omega (arith, c.loop-param.invariant.0, w.place-is),
        put_none symbol_form all c.loop-param.place left rest c.args.out.now c.loop-param.out
            (not_named test x (drop i params) (drop (i + 1) params) here (sym c.is_of.ensures ∙ w.if-is_of.false)) c.loop-param.invariant.1 w.place-is w.out-is,
      )
    ]
