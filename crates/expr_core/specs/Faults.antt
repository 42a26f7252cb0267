-- Which nodes of an expression are bad. Nodes are numbered in pre-order, and their reasons by `SortFault`.
use Rattle.std.specs.Prelude.{ℕ, suc, if◌then◌else◌, Option, Some, None, is_some, unwrap_or, List, [], ◌∷◌, ◌++◌, map, length, slice_get}
use Rattle.std.specs.Option.{option_or}
use Rattle.sig_core.specs.declared.value.Sort.{Sort}
use Rattle.sig_core.specs.declared.value.Sort.TheVariants as sort
use Rattle.expr_core.specs.declared.expr.Op.{Op}
use Rattle.expr_core.specs.declared.expr.Expr.{Expr}
use Rattle.expr_core.specs.declared.expr.Expr.TheOpen.{Expr-F}
use Rattle.expr_core.specs.declared.expr.Expr.TheFolds.{fold-Expr}
use Rattle.expr_core.specs.declared.sorts.SortFault.{SortFault}
use Rattle.sig_core.specs.Values.{sort_of}
use Rattle.expr_core.specs.Sorts.{takes, wanted_sort, stated_result, is_wanted}

-- the sort that a node states, the reason by which it is bad by itself, and the reason of each node below it
pub record Survey : Type 0 where
  pub stated : Sort
  pub own : Option ℕ
  pub below : List (Option ℕ)

-- the least reason by which a node is bad, where its parent wants this sort
abbrev pub reason_in : Option Sort → Survey → Option ℕ
reason_in want node = option_or node.own (if is_wanted want node.stated then None else Some 3)

-- the reasons of a node and of those below it
abbrev pub reasons_in : Option Sort → Survey → List (Option ℕ)
reasons_in want node = reason_in want node ∷ node.below

-- the reasons of operands and of those below them, where the first is operand k
abbrev pub reasons_from : (ℕ → Option Sort) → ℕ → List Survey → List (Option ℕ)
reasons_from want k [] = []
reasons_from want k (node ∷ nodes) = reasons_in (want k) node ++ reasons_from want (suc k) nodes

-- an operator, by the surveys of its operands
abbrev pub survey_of : Op → List Survey → Survey
survey_of op kids = record {
  stated = stated_result op (map (λ kid. kid.stated) kids);
  own = (if takes op (length kids) then None else Some 2);
  below = reasons_from (wanted_sort op (map (λ kid. kid.stated) kids)) 0 kids;
}

-- a slot out of scope states Bool
abbrev pub survey_step : List Sort → Expr-F Survey → Survey
survey_step scope (Expr-F.Slot i) = record {
  stated = unwrap_or (slice_get scope i) sort.Bool;
  own = (if is_some (slice_get scope i) then None else Some 1);
  below = [];
}
survey_step scope (Expr-F.Lit v) = record { stated = sort_of v; own = None; below = [] }
survey_step scope (Expr-F.Apply op kids) = survey_of op kids

-- what there is to know of the nodes of an expression
abbrev pub survey : List Sort → Expr → Survey
survey scope = fold-Expr Survey (survey_step scope)

-- the sort that an expression states, also where nodes are bad
abbrev pub stated_sort : List Sort → Expr → Sort
stated_sort scope e = (survey scope e).stated

-- for each node of an expression, in pre-order, the least reason by which it is bad
abbrev pub reasons : List Sort → Expr → List (Option ℕ)
reasons scope e = reasons_in None (survey scope e)

-- the first node with a reason, where the first of the list has this number
abbrev pub first_fault_from : ℕ → List (Option ℕ) → Option SortFault
first_fault_from n [] = None
first_fault_from n (None ∷ rs) = first_fault_from (suc n) rs
first_fault_from n (Some reason ∷ rs) = Some (record { node = n; reason = reason })

-- the bad node of least number, with its least reason
abbrev pub first_fault : List Sort → Expr → Option SortFault
first_fault scope e = first_fault_from 0 (reasons scope e)
