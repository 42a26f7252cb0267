-- What an operator gives of the values of its operands: nothing where it is not defined.
use Rattle.std.specs.Prelude.{ℤ, pos, neg_ℤ, unsigned_abs, ◌+ℤ◌, ◌-ℤ◌, ◌*ℤ◌, int_lt, int_le, Bool, true, not, ◌&&◌, ◌||◌, if◌then◌else◌, Option, Some, None, option_map, option_and_then, List, [], ◌∷◌, map}
use Rattle.std.specs.Bool.{beq}
use Rattle.std.specs.List.{list_all}
use Rattle.sig_core.specs.declared.value.Value.{Value}
use Rattle.sig_core.specs.declared.value.Value.TheVariants as value
use Rattle.expr_core.specs.declared.expr.Op.{Op}
use Rattle.expr_core.specs.declared.expr.Op.TheVariants.{Not, And, Or, Xor, Implies, Equal, Distinct, Ite, Add, Minus, Times, Div, Mod, Abs, Less, AtMost, Greater, AtLeast}
use Rattle.sig_core.specs.Lists.{all_some, chained}
use Rattle.sig_core.specs.Values.{sort_of, same_sort, same_value, ranged}
use Rattle.expr_core.specs.Division.{quotient, remainder}

-- the number that a value is
abbrev pub int_of : Value → Option ℤ
int_of (value.Int n) = Some n
int_of (value.Bool b) = None

-- the truth value that a value is
abbrev pub bool_of : Value → Option Bool
bool_of (value.Int n) = None
bool_of (value.Bool b) = Some b

-- x and the operands after it, taken together two at a time from the left
abbrev pub left_fold_from : {X : Type 0} → (X → X → Option X) → X → List X → Option X
left_fold_from f x [] = Some x
left_fold_from f x (y ∷ ys) = option_and_then (λ z. left_fold_from f z ys) (f x y)

-- the same of one or more operands
abbrev pub left_fold : {X : Type 0} → (X → X → Option X) → List X → Option X
left_fold f [] = None
left_fold f (x ∷ xs) = left_fold_from f x xs

-- f of two or more operands alone
abbrev pub two_or_more : {X Y : Type 0} → (List X → Option Y) → List X → Option Y
two_or_more f (x ∷ y ∷ xs) = f (x ∷ y ∷ xs)
two_or_more f _ = None

-- the sum, the difference and the product of two numbers, if it is in range
abbrev pub sum_of : ℤ → ℤ → Option ℤ
sum_of m n = ranged (m +ℤ n)

abbrev pub difference : ℤ → ℤ → Option ℤ
difference m n = ranged (m -ℤ n)

abbrev pub product : ℤ → ℤ → Option ℤ
product m n = ranged (m *ℤ n)

-- of one operand its negation, of more the differences from the left
abbrev pub minus : List ℤ → Option ℤ
minus (m ∷ []) = ranged (neg_ℤ m)
minus ms = left_fold difference ms

-- to the right: the first implies what the others give
abbrev pub implication : List Bool → Bool
implication [] = true
implication (b ∷ []) = b
implication (b ∷ c ∷ bs) = not b || implication (c ∷ bs)

-- no two are equal
abbrev pub are_distinct : List Value → Bool
are_distinct [] = true
are_distinct (v ∷ vs) = list_all (λ w. not (same_value v w)) vs && are_distinct vs

-- all have the sort of the first
abbrev pub one_sort : List Value → Bool
one_sort [] = true
one_sort (v ∷ vs) = list_all (λ w. same_sort (sort_of v) (sort_of w)) vs

-- an operator on numbers, to a number or to a truth value
abbrev pub ints_to_int : (List ℤ → Option ℤ) → List Value → Option Value
ints_to_int f vs = option_map value.Int (option_and_then f (all_some (map int_of vs)))

abbrev pub ints_to_bool : (ℤ → ℤ → Bool) → List Value → Option Value
ints_to_bool r vs = option_map value.Bool (option_and_then (two_or_more (λ ms. Some (chained r ms))) (all_some (map int_of vs)))

-- an operator on truth values
abbrev pub bools_to_bool : (List Bool → Option Bool) → List Value → Option Value
bools_to_bool f vs = option_map value.Bool (option_and_then f (all_some (map bool_of vs)))

-- a test of two or more values of one sort
abbrev pub values_to_bool : (List Value → Bool) → List Value → Option Value
values_to_bool p vs = option_map value.Bool (two_or_more (λ ws. if one_sort ws then Some (p ws) else None) vs)

-- of two numbers the remainder
abbrev pub modulus : List Value → Option Value
modulus (value.Int m ∷ value.Int n ∷ []) = option_map value.Int (remainder m n)
modulus _ = None

-- of one number
abbrev pub absolute_value : List Value → Option Value
absolute_value (value.Int m ∷ []) = option_map value.Int (ranged (pos (unsigned_abs m)))
absolute_value _ = None

-- of one truth value
abbrev pub negation : List Value → Option Value
negation (value.Bool b ∷ []) = Some (value.Bool (not b))
negation _ = None

-- the second operand if the first is true, else the third
abbrev pub conditional : List Value → Option Value
conditional (value.Bool c ∷ v ∷ w ∷ []) = if same_sort (sort_of v) (sort_of w) then Some (if c then v else w) else None
conditional _ = None

-- the operators of the theories Core and Ints of SMT-LIB 2.6. That a number has 128 bits, that a result or a partial
-- result out of range is none, and that `and`, `or`, `+` and `*` take a single operand too, are this project's own
abbrev pub applied : Op → List Value → Option Value
applied Not = negation
applied And = bools_to_bool (left_fold (λ a b. Some (a && b)))
applied Or = bools_to_bool (left_fold (λ a b. Some (a || b)))
applied Xor = bools_to_bool (two_or_more (left_fold (λ a b. Some (not (beq a b)))))
applied Implies = bools_to_bool (two_or_more (λ bs. Some (implication bs)))
applied Equal = values_to_bool (chained same_value)
applied Distinct = values_to_bool are_distinct
applied Ite = conditional
applied Add = ints_to_int (left_fold sum_of)
applied Minus = ints_to_int minus
applied Times = ints_to_int (left_fold product)
applied Div = ints_to_int (two_or_more (left_fold quotient))
applied Mod = modulus
applied Abs = absolute_value
applied Less = ints_to_bool int_lt
applied AtMost = ints_to_bool int_le
applied Greater = ints_to_bool (λ m n. int_lt n m)
applied AtLeast = ints_to_bool (λ m n. int_le n m)
