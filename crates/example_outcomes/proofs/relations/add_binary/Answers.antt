use Rattle.std.proofs.Common.{length, sym, subst, arith}
use Rattle.sig_core.specs.WellFormed.{IsRelation}
use Rattle.example_relations.proofs.Fits.{binary_fits}
use Rattle.example_outcomes.proofs.relations.add_binary.Goals as goal

pub add_relation-requires : goal.add_relation-requires
add_relation-requires c =
    let types = length c.args.signature.now.types in
    subst (λ params. IsRelation types (record { name = c.in_ok-name.name; params = params })) (sym c.in_ok-params.ensures) (binary_fits types c.args.ty c.args.output c.in_ok-name.name (omega arith))
