-- What values, sorts, slots, counts and surveys are at each kind of expression.
use Rattle.std.proofs.Common.{◌≡◌, ℕ, ◌+◌, Option, Some, List, [], ◌∷◌, map, slice_get, option_and_then, sum, rules}
use Rattle.std.specs.List.{flat_map}
use Rattle.sig_core.specs.declared.value.Value.{Value}
use Rattle.sig_core.specs.declared.value.Sort.{Sort}
use Rattle.expr_core.specs.declared.expr.Op.{Op}
use Rattle.expr_core.specs.declared.expr.Expr.{Expr, the_lemmas}
use Rattle.expr_core.specs.declared.expr.Expr.TheVariants.{Slot, Lit, Apply}
use Rattle.expr_core.specs.declared.expr.Expr.TheOpen.{Expr-F}
use Rattle.sig_core.specs.Lists.{all_some}
use Rattle.sig_core.specs.Values.{sort_of}
use Rattle.expr_core.specs.Sorts.{result_sort}
use Rattle.expr_core.specs.Expressions.{value_of, value_over, operation, slots_in, sort_in, node_count}
use Rattle.expr_core.specs.Faults.{survey, survey_of, survey_step}

pub over-Slot : (look : ℕ → Option Value) (i : ℕ) → value_over look (Slot i) ≡ look i
over-Slot look i = search (rules, the_lemmas)

pub over-Lit : (look : ℕ → Option Value) (v : Value) → value_over look (Lit v) ≡ Some v
over-Lit look v = search (rules, the_lemmas)

pub over-Apply : (look : ℕ → Option Value) (op : Op) (kids : List Expr) → value_over look (Apply op kids) ≡ operation op (map (value_over look) kids)
over-Apply look op kids = search (rules, the_lemmas)

pub value-Slot : (s : List Value) (i : ℕ) → value_of s (Slot i) ≡ slice_get s i
value-Slot s i = over-Slot (slice_get s) i

pub value-Lit : (s : List Value) (v : Value) → value_of s (Lit v) ≡ Some v
value-Lit s v = over-Lit (slice_get s) v

pub value-Apply : (s : List Value) (op : Op) (kids : List Expr) → value_of s (Apply op kids) ≡ operation op (map (value_of s) kids)
value-Apply s op kids = over-Apply (slice_get s) op kids

pub slots-Slot : (i : ℕ) → slots_in (Slot i) ≡ i ∷ []
slots-Slot i = search (rules, the_lemmas)

pub slots-Lit : (v : Value) → slots_in (Lit v) ≡ []
slots-Lit v = search (rules, the_lemmas)

pub slots-Apply : (op : Op) (kids : List Expr) → slots_in (Apply op kids) ≡ flat_map (λ is. is) (map slots_in kids)
slots-Apply op kids = search (rules, the_lemmas)

pub sort-Slot : (scope : List Sort) (i : ℕ) → sort_in scope (Slot i) ≡ slice_get scope i
sort-Slot scope i = search (rules, the_lemmas)

pub sort-Lit : (scope : List Sort) (v : Value) → sort_in scope (Lit v) ≡ Some (sort_of v)
sort-Lit scope v = search (rules, the_lemmas)

pub sort-Apply : (scope : List Sort) (op : Op) (kids : List Expr) → sort_in scope (Apply op kids) ≡ option_and_then (result_sort op) (all_some (map (sort_in scope) kids))
sort-Apply scope op kids = search (rules, the_lemmas)

pub count-Slot : (i : ℕ) → node_count (Slot i) ≡ 1
count-Slot i = search (rules, the_lemmas)

pub count-Lit : (v : Value) → node_count (Lit v) ≡ 1
count-Lit v = search (rules, the_lemmas)

pub count-Apply : (op : Op) (kids : List Expr) → node_count (Apply op kids) ≡ 1 + sum (map node_count kids)
count-Apply op kids = search (rules, the_lemmas)

pub survey-Slot : (scope : List Sort) (i : ℕ) → survey scope (Slot i) ≡ survey_step scope (Expr-F.Slot i)
survey-Slot scope i = search (rules, the_lemmas)

pub survey-Lit : (scope : List Sort) (v : Value) → survey scope (Lit v) ≡ survey_step scope (Expr-F.Lit v)
survey-Lit scope v = search (rules, the_lemmas)

pub survey-Apply : (scope : List Sort) (op : Op) (kids : List Expr) → survey scope (Apply op kids) ≡ survey_of op (map (survey scope) kids)
survey-Apply scope op kids = search (rules, the_lemmas)
