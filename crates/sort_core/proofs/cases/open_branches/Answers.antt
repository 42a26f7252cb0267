use Rattle.std.proofs.Common.{length, ap, arith}
use Rattle.std.proofs.lemmas.List.{length-map}
use Rattle.syntax_core.specs.declared.syntax.Pair.{Pair}
use Rattle.name_core.specs.Names.{plain_pairs}
use Rattle.sort_core.specs.declared.variables.Variables.{Variables}
use Rattle.sort_core.proofs.cases.open_branches.Goals as goal

pub put_branches-requires-clause-slots : goal.put_branches-requires-clause-slots
put_branches-requires-clause-slots c =
    let named = ap (λ (v : Variables). length v.slots) c.in_ok-variables.ensures in
    let counted = length-map (plain_pairs c.args.function.now.declaration.params) (λ (pair : Pair). pair.name.bytes) in
    omega (arith, named, counted, c.requires.slots)
