use Rattle.std.proofs.Common.{◌≡◌, ℕ, ◌<◌, ◌∙◌, ◌∷◌, ◌++◌, [], List, length, ap, ap₂, sym, arith}
use Rattle.sig_core.specs.declared.ids.TypeId.{TypeId}
use Rattle.grammar_core.specs.Grammars.{Nonterminal}
use Rattle.grammar_core.specs.Whole.{nonterminal_over}
use Rattle.grammar_core.proofs.Filling.{bare_all, bare_first, bare_other, named}
use Rattle.grammar_core.proofs.whole.bare.Goals as goal
use Rattle.grammar_core.proofs.whole.bare.Goals.{then-t-first+in_ok-nonterminal_of-2+in_ok-push-2, else-t-first}

pub loop-t-preserved : goal.loop-t-preserved
loop-t-preserved c =
    let sig = c.args.signature.now in
    let within : c.loop-t.t < length sig.types = omega (arith, c.loop-t-test.true, c.types-t-end.ensures.value) in
    let of : TypeId = record { 0 = c.loop-t.t } in
    elim c.if-t-first.branch [
      | then-t-first+in_ok-nonterminal_of-2+in_ok-push-2 w ↦
          (let one : w.in_ok-nonterminal_of-2.field-0 ≡ nonterminal_over sig c.args.first [] of = w.in_ok-nonterminal_of-2.ensures ∙ ap (λ (n : List ℕ). record { name = n; owner = of; productions = [] }) w.as_slice-then-t-first.ensures ∙ named sig c.args.first of w.type_name-name-then-t-first.result.now w.type_name-name-then-t-first.ensures in
          ap (λ v. v.items) w.made-is ∙ w.in_ok-push-2.ensures.items ∙ ap₂ (λ (xs : List Nonterminal) (x : Nonterminal). xs ++ x ∷ []) c.loop-t.invariant one ∙ sym (bare_other sig c.args.first c.loop-t.t within w.if-t-first.true))
      | else-t-first w ↦ ap (λ v. v.items) w.made-is ∙ c.loop-t.invariant ∙ sym (bare_first sig c.args.first c.loop-t.t within w.if-t-first.false)
    ]

pub returns : goal.returns
returns c = c.loop-t.invariant ∙ bare_all c.args.signature.now c.args.first c.loop-t.t (omega (arith, c.loop-t-test.false, c.types-t-end.ensures.value))
