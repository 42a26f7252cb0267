use Rattle.std.proofs.Common.{◌≡◌, ◌++◌, [], ◌∷◌, ◌+◌, map, drop, ap, ◌∙◌}
use Rattle.sig_core.specs.declared.ids.TypeId.{TypeId}
use Rattle.sexpr_core.specs.declared.form.Atom.{Atom}
use Rattle.sexpr_core.specs.declared.form.Sexpr.{Sexpr}
use Rattle.syntax_core.specs.Syntax.{atom_of}
use Rattle.sort_core.specs.Relations.{type_named}
use Rattle.sort_core.proofs.Dues.{made_more}
use Rattle.making_core.proofs.types.types_of.Goals as goal

pub loop-form-preserved : goal.loop-form-preserved
loop-form-preserved c =
    let f : Sexpr → TypeId = λ form. type_named c.args.signature.now (atom_of form).bytes in
    let xs = c.args.forms.now in
    let i = c.loop-form.form-index in
    let named : c.type_named.result ≡ f c.form-item.result = c.type_named.ensures ∙ ap (type_named c.args.signature.now) (c.as_slice.ensures ∙ ap (λ (a : Atom). a.bytes) c.in_ok-name.ensures) in
    ap (λ o. o ++ map f (drop (i + 1) xs)) (c.in_ok-push.ensures.ok ∙ ap (λ m. c.loop-form.types ++ m ∷ []) named)
    ∙ made_more f c.loop-form.types xs i c.form-item.result _ c.loop-form-test.true c.form-item.is c.loop-form.invariant
