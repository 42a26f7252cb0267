-- The value and the sort of an expression.
use Rattle.std.specs.Prelude.{ℕ, ◌+◌, true, false, Option, Some, None, option_and_then, List, [], ◌∷◌, map, slice_get, sum}
use Rattle.std.specs.Option.{option_flatten}
use Rattle.std.specs.List.{flat_map}
use Rattle.sig_core.specs.declared.value.Value.{Value}
use Rattle.sig_core.specs.declared.value.Value.TheVariants as value
use Rattle.sig_core.specs.declared.value.Sort.{Sort}
use Rattle.expr_core.specs.declared.expr.Op.{Op}
use Rattle.expr_core.specs.declared.expr.Op.TheVariants.{Ite}
use Rattle.expr_core.specs.declared.expr.Expr.{Expr}
use Rattle.expr_core.specs.declared.expr.Expr.TheOpen.{Expr-F}
use Rattle.expr_core.specs.declared.expr.Expr.TheFolds.{fold-Expr}
use Rattle.sig_core.specs.Lists.{all_some}
use Rattle.sig_core.specs.Values.{sort_of}
use Rattle.expr_core.specs.Operators.{applied}
use Rattle.expr_core.specs.Sorts.{result_sort}

-- the branch that the condition chooses, whatever the other is
abbrev pub branch_of : Option Value → Option Value → Option Value → Option Value
branch_of (Some (value.Bool true)) x y = x
branch_of (Some (value.Bool false)) x y = y
branch_of _ x y = None

-- the value of `ite`: its condition and the branch that it chooses have one
abbrev pub choice : List (Option Value) → Option Value
choice (c ∷ x ∷ y ∷ []) = branch_of c x y
choice _ = None

-- what an operator gives of its operands: nothing where one has no value, but for the branch that is not chosen
abbrev pub operation : Op → List (Option Value) → Option Value
operation Ite kids = choice kids
operation op kids = option_and_then (applied op) (all_some kids)

-- a slot has what `look` gives, and a literal its own value
abbrev pub value_step : (ℕ → Option Value) → Expr-F (Option Value) → Option Value
value_step look (Expr-F.Slot i) = look i
value_step look (Expr-F.Lit v) = Some v
value_step look (Expr-F.Apply op kids) = operation op kids

-- the value of an expression where a slot has what `look` gives
abbrev pub value_over : (ℕ → Option Value) → Expr → Option Value
value_over look = fold-Expr (Option Value) (value_step look)

-- the values of expressions, if each has one
abbrev pub values_over : (ℕ → Option Value) → List Expr → Option (List Value)
values_over look es = all_some (map (value_over look) es)

-- the value of an expression over the values of its slots
abbrev pub value_of : List Value → Expr → Option Value
value_of slots = value_over (slice_get slots)

-- the value of a slot that may be empty
abbrev pub look : List (Option Value) → ℕ → Option Value
look slots i = option_flatten (slice_get slots i)

-- a slot has the sort of the scope, and a literal its own
abbrev pub sort_step : List Sort → Expr-F (Option Sort) → Option Sort
sort_step scope (Expr-F.Slot i) = slice_get scope i
sort_step scope (Expr-F.Lit v) = Some (sort_of v)
sort_step scope (Expr-F.Apply op kids) = option_and_then (result_sort op) (all_some kids)

-- the sort of an expression in which each operator has the operands that it wants
abbrev pub sort_in : List Sort → Expr → Option Sort
sort_in scope = fold-Expr (Option Sort) (sort_step scope)

-- a slot itself, and those of all operands
abbrev pub slots_step : Expr-F (List ℕ) → List ℕ
slots_step (Expr-F.Slot i) = i ∷ []
slots_step (Expr-F.Lit v) = []
slots_step (Expr-F.Apply op kids) = flat_map (λ is. is) kids

-- the slots that stand in an expression
abbrev pub slots_in : Expr → List ℕ
slots_in = fold-Expr (List ℕ) slots_step

-- the node itself, and those of its operands
abbrev pub count_step : Expr-F ℕ → ℕ
count_step (Expr-F.Slot i) = 1
count_step (Expr-F.Lit v) = 1
count_step (Expr-F.Apply op kids) = 1 + sum kids

-- how many nodes an expression has
abbrev pub node_count : Expr → ℕ
node_count = fold-Expr ℕ count_step
