use Rattle.std.proofs.Common.{List, length, All, sym, subst}
use Rattle.sig_core.specs.declared.ids.TypeId.{TypeId}
use Rattle.sig_core.specs.WellFormed.{IsDeclared}
use Rattle.making_core.proofs.types.add_constructor.Goals as goal

pub add_constructor-requires-clause-args : goal.add_constructor-requires-clause-args
add_constructor-requires-clause-args c =
    let P : List TypeId → Type 0 = All (IsDeclared (length c.args.signature.now.types)) in
    subst P (sym c.as_slice-2.ensures) c.requires.args
