use Rattle.std.proofs.Common.{◌≡◌, ◌+◌, ◌++◌, ◌∷◌, drop, map, sym, ap, ◌∙◌, subst, arith}
use Rattle.std.proofs.lemmas.List.{drop_more}
use Rattle.sexpr_core.specs.Texts.{form_text, gap_before, joined, joined_from}
use Rattle.sexpr_core.proofs.Parts.{Reaches, Reaches-part, OnErr-always}
use Rattle.sexpr_core.proofs.printing.+print.Goals as goal

pub print_joined-returns-in_err-print_at-clause-err : goal.print_joined-returns-in_err-print_at-clause-err
print_joined-returns-in_err-print_at-clause-err t c =
    let xs = c.args.forms.now in
    let i = c.loop-i.i in
    let x = c.index-forms-i.result in
    let here : drop i xs ≡ x ∷ drop (i + 1) xs = drop_more xs i x (omega arith) ∙ ap (λ y. y ∷ drop (i + 1) xs) (sym c.index-forms-i.is) in
    let had = subst (λ ys. Reaches c.args.out.now (joined (map form_text xs)) c.loop-i.out (joined_from i (map form_text ys))) here c.loop-i.invariant in
    OnErr-always _ (Reaches-part (gap_before i ++ form_text x) _ _ had c.in_err-print_at.ensures.err)
