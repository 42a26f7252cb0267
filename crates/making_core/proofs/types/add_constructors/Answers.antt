use Rattle.std.proofs.Common.{◌+◌, ◌++◌, [], ◌∷◌, List, drop, sym, ap, subst, ◌∙◌, append_assoc}
use Rattle.sig_core.specs.declared.signature.Constructor.{Constructor}
use Rattle.sig_core.specs.Signatures.{Declarations}
use Rattle.making_core.specs.Fitting.{ConstructorsFit}
use Rattle.making_core.proofs.NextItems.{next_is}
use Rattle.making_core.proofs.types.add_constructors.Goals as goal

pub add_constructor-requires : goal.add_constructor-requires
add_constructor-requires c =
    let P : List Constructor → Type 0 = ConstructorsFit c.loop-con.signature in
    (subst P (next_is c.args.cons.now c.loop-con.con-index c.con-item.result c.loop-con-test.true c.con-item.is) c.loop-con.invariant.1).0

pub loop-con-preserved : goal.loop-con-preserved
loop-con-preserved c =
    let sig : Declarations = c.loop-con.signature in
    let rest : List Constructor = drop (c.loop-con.con-index + 1) c.args.cons.now in
    let P : List Constructor → Type 0 = ConstructorsFit sig in
    let Q : Declarations → Type 0 = λ s. ConstructorsFit s rest in
    let next = next_is c.args.cons.now c.loop-con.con-index c.con-item.result c.loop-con-test.true c.con-item.is in
    let added = c.in_ok-add_constructor.ensures in (
      ap (λ (s : Declarations). record s { constructors = s.constructors ++ rest }) added
          ∙ ap (λ (cs : List Constructor). record sig { constructors = cs }) (append_assoc sig.constructors (c.con-item.result ∷ []) rest ∙ sym (ap (λ ys. sig.constructors ++ ys) next))
          ∙ c.loop-con.invariant.0,
      subst Q (sym added) (subst P next c.loop-con.invariant.1).1,
    )
