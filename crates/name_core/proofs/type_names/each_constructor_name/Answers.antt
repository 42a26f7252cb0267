use Rattle.std.proofs.Common.{List, ◌++◌, map, take, refl}
use Rattle.std.specs.List.{flat_map}
use Rattle.sig_core.specs.WellFormed.{constructor_names}
use Rattle.syntax_core.specs.declared.syntax.Pattern.{Pattern}
use Rattle.name_core.specs.Names.{taken_name, texts, unknown_name}
use Rattle.name_core.proofs.Loops.{after_here, after_next}
use Rattle.name_core.proofs.type_names.each_constructor_name.Goals as goal

pub returns-in-Some : goal.returns-in-Some
returns-in-Some c =
    after_here (λ (before : List Pattern) (con : Pattern). taken_name (constructor_names c.args.signature.now.constructors ++ map (λ (k : Pattern). k.name.bytes) before) con.name
    ++ flat_map (unknown_name (c.args.signature.now.types ++ texts c.args.types.now)) con.variables)
    c.args.constructors.now (take c.loop-k.k c.args.constructors.now) c.loop-k.k c.index-constructors-k.result _ c.in-Some.fault
    c.loop-k-test.true c.index-constructors-k.is refl c.loop-k.invariant c.in-Some.ensures

pub loop-k-preserved : goal.loop-k-preserved
loop-k-preserved c =
    after_next (λ (before : List Pattern) (con : Pattern). taken_name (constructor_names c.args.signature.now.constructors ++ map (λ (k : Pattern). k.name.bytes) before) con.name
    ++ flat_map (unknown_name (c.args.signature.now.types ++ texts c.args.types.now)) con.variables)
    c.args.constructors.now (take c.loop-k.k c.args.constructors.now) c.loop-k.k c.index-constructors-k.result _
    c.loop-k-test.true c.index-constructors-k.is refl c.loop-k.invariant c.in_default.ensures
