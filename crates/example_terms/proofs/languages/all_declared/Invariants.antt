use Rattle.std.proofs.Common.{take, length, All}
use Rattle.sig_core.specs.WellFormed.{IsDeclared}
use Rattle.example_terms.proofs.languages.all_declared.Given as goal

-- the types met so far are declared
abbrev pub invariant-loop-ty : goal.invariant-loop-ty
invariant-loop-ty l = All (IsDeclared (length l.signature.types)) (take l.ty-index l.types)
