use Rattle.std.proofs.Common.{◌+◌, [], ◌∷◌, ◌++◌, drop, ap, ◌∙◌}
use Rattle.sig_core.specs.declared.signature.Relation.{Relation}
use Rattle.sig_core.specs.WellFormed.{relation_names}
use Rattle.name_core.proofs.Loops.{made_read}
use Rattle.name_core.proofs.function_names.relation_names.Goals as goal

pub loop-number-preserved : goal.loop-number-preserved
loop-number-preserved c =
    ap (λ o. o ++ relation_names (drop (c.loop-number.number + 1) c.args.signature.now.relations)) (c.in_ok-push.ensures.ok ∙ ap (λ n. c.loop-number.names ++ n ∷ []) c.in_ok-copy.ensures)
    ∙ made_read (λ (r : Relation). r.name) c.loop-number.names c.args.signature.now.relations c.loop-number.number c.relation-relation.result.now _ c.relation-relation.ensures c.loop-number.invariant
