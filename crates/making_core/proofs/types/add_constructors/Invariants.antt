use Rattle.std.proofs.Common.{◌≡◌, ◌++◌, drop}
use Rattle.making_core.specs.Fitting.{ConstructorsFit}
use Rattle.making_core.proofs.types.add_constructors.Given as goal

-- what is left fits, and makes the rest
abbrev pub invariant-loop-con : goal.invariant-loop-con
invariant-loop-con l =
    (record l.signature { constructors = l.signature.constructors ++ drop l.con-index l.cons } ≡ record l.initial.signature { constructors = l.initial.signature.constructors ++ l.cons })
    × ConstructorsFit l.signature (drop l.con-index l.cons)
