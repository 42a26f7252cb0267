use Rattle.std.proofs.Common.{drop, map}
use Rattle.sexpr_core.specs.Texts.{form_text, joined, joined_from}
use Rattle.sexpr_core.proofs.Parts.{Reaches}
use Rattle.sexpr_core.proofs.printing.+print.Given as goal

-- what is left of the text
abbrev pub invariant-print_joined-loop-i : goal.invariant-print_joined-loop-i
invariant-print_joined-loop-i l = Reaches l.fn.out (joined (map form_text l.forms)) l.out (joined_from l.i (map form_text (drop l.i l.forms)))
