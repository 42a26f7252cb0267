use Rattle.std.proofs.Common.{ℕ, List, ap, subst}
use Rattle.sexpr_core.specs.declared.form.Atom.{Atom}
use Rattle.sexpr_core.specs.declared.form.Sexpr.{Sexpr}
use Rattle.syntax_core.specs.Syntax.{pair_of}
use Rattle.making_core.specs.Fitting.{TypesFit}
use Rattle.name_core.specs.Names.{texts}
use Rattle.making_core.proofs.NextItems.{next_made}
use Rattle.making_core.proofs.types.add_types.Goals as goal

pub add_type-requires : goal.add_type-requires
add_type-requires c =
    let P : List (List ℕ) → Type 0 = TypesFit c.loop-form.signature in
    let f : Sexpr → Atom = λ form. (pair_of form).name in
    (subst P (ap texts (next_made f c.args.forms.now c.loop-form.form-index c.form-item.result c.loop-form-test.true c.form-item.is)) c.loop-form.invariant.1).0
