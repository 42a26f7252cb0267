-- Laws of the definitions.
use Rattle.std.specs.Prelude.{◌≡◌, ◌≢◌, ℕ, ℤ, pos, Option, Some, None, is_none, if◌then◌else◌, List, Contains, length, nat_eq, slice_get, slice_set, ◌<◌}
use Rattle.sig_core.specs.declared.value.Value.{Value}
use Rattle.sig_core.specs.declared.value.Sort.{Sort}
use Rattle.expr_core.specs.declared.expr.Expr.{Expr}
use Rattle.sig_core.specs.Values.{sort_of, ranged}
use Rattle.expr_core.specs.Division.{IsDivision, quotient, remainder}
use Rattle.expr_core.specs.Expressions.{value_over, look, sort_in, slots_in, node_count}
use Rattle.expr_core.specs.Faults.{reasons, first_fault, stated_sort}

-- by a number other than 0 there is a quotient with a remainder
abbrev pub DivisionExists : Type 0
DivisionExists = (m n : ℤ) → n ≢ pos 0 → (q : ℤ) × (r : ℤ) × IsDivision m n q r

-- there is only one, and it is what `div` and `mod` give where it is in range
abbrev pub DivisionIsUnique : Type 0
DivisionIsUnique = (m n q r : ℤ) → IsDivision m n q r → (quotient m n ≡ ranged q) × (remainder m n ≡ ranged r)

-- by 0 there is none
abbrev pub NothingByZero : Type 0
NothingByZero = (m : ℤ) → (quotient m (pos 0) ≡ None) × (remainder m (pos 0) ≡ None)

-- two sources of values that agree on the slots of an expression give it one value
abbrev pub OnlySlotsCount : Type 0
OnlySlotsCount = (e : Expr) (look look' : ℕ → Option Value) → ((i : ℕ) → Contains (slots_in e) i → look i ≡ look' i) → value_over look e ≡ value_over look' e

-- the value of an expression has the expression's sort, where the values of slots have the sorts of the scope
abbrev pub ValuesHaveSorts : Type 0
ValuesHaveSorts = (e : Expr) (scope : List Sort) (look : ℕ → Option Value) (s : Sort) (v : Value)
    → ((i : ℕ) (w : Value) → look i ≡ Some w → slice_get scope i ≡ Some (sort_of w))
    → sort_in scope e ≡ Some s → value_over look e ≡ Some v → sort_of v ≡ s

-- an expression has a sort exactly where no node is bad, and then that which it states
abbrev pub SortedHasNoBadNode : Type 0
SortedHasNoBadNode = (scope : List Sort) (e : Expr) → sort_in scope e ≡ (if is_none (first_fault scope e) then Some (stated_sort scope e) else None)

-- each node has one entry in the list of reasons
abbrev pub ReasonsAreOfNodes : Type 0
ReasonsAreOfNodes = (scope : List Sort) (e : Expr) → length (reasons scope e) ≡ node_count e

-- a slot has what was put in it last, and the others what they had
abbrev pub SlotsKeepValues : Type 0
SlotsKeepValues = (slots : List (Option Value)) (i j : ℕ) (v : Option Value) → i < length slots → look (slice_set slots i v) j ≡ (if nat_eq i j then v else look slots j)
