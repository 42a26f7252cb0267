use Rattle.std.proofs.Common.{◌+◌, ◌++◌, List, map, drop, sym, ap, ◌∙◌, append_assoc, arith}
use Rattle.std.specs.List.{flat_map, enumerate_from}
use Rattle.sig_core.specs.declared.signature.Constructor.{Constructor}
use Rattle.sexpr_core.specs.declared.form.Sexpr.{Sexpr}
use Rattle.sexpr_core.specs.Access.{parts_of}
use Rattle.syntax_core.specs.Syntax.{pattern_of}
use Rattle.making_core.specs.Making.{constructor_of, constructors_of}
use Rattle.making_core.proofs.NextItems.{next_is}
use Rattle.making_core.proofs.types.constructors_of.Goals as goal

pub loop-group-preserved : goal.loop-group-preserved
loop-group-preserved c =
    let sig = c.args.signature.now in
    let n = c.loop-group.owner in
    let made : Sexpr → Constructor = λ form. constructor_of sig n (pattern_of form) in
    let rest : List Constructor = flat_map (constructors_of sig) (enumerate_from (n + 1) (drop (c.loop-group.group-index + 1) c.args.groups.now)) in
    let next = next_is c.args.groups.now c.loop-group.group-index c.group-item.result c.loop-group-test.true c.group-item.is in (
      ap (λ o. o ++ rest) (c.in_ok-put_group.ensures ∙ ap (λ ps. c.loop-group.cons ++ map made ps) c.parts_of.ensures)
          ∙ append_assoc c.loop-group.cons (map made (parts_of c.group-item.result)) rest
          ∙ sym (ap (λ gs. c.loop-group.cons ++ flat_map (constructors_of sig) (enumerate_from n gs)) next) ∙ c.loop-group.invariant.0,
      omega arith,
    )
