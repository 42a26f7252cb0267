use Rattle.std.proofs.Common.{drop}
use Rattle.sexpr_core.specs.Lexicon.{doubled}
use Rattle.sexpr_core.proofs.Parts.{Reaches}
use Rattle.sexpr_core.proofs.printing.put_doubled.Given as goal

-- what is left of the text
abbrev pub invariant-loop-byte : goal.invariant-loop-byte
invariant-loop-byte l = Reaches l.fn.out (doubled l.bytes) l.out (doubled (drop l.byte-index l.bytes))
