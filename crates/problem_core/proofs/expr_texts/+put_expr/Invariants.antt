use Rattle.std.proofs.Common.{◌≡◌, ◌++◌, take}
use Rattle.std.specs.List.{flat_map}
use Rattle.problem_core.specs.Texts.{expr_form, next_text}
use Rattle.problem_core.proofs.expr_texts.+put_expr.Given as goal

abbrev pub invariant-put_operands-loop-kid : goal.invariant-put_operands-loop-kid
invariant-put_operands-loop-kid l = l.out ≡ l.fn.out ++ flat_map (λ e. next_text (expr_form l.signature l.rule e)) (take l.kid-index l.kids)
