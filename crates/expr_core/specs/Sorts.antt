-- How many operands an operator takes, of which sorts, and the sort of its result.
use Rattle.std.specs.Prelude.{ℕ, zero, suc, Bool, true, ◌&&◌, nat_eq, nat_le, if◌then◌else◌, Option, Some, None, unwrap_or, List, [], ◌∷◌, length, slice_get}
use Rattle.sig_core.specs.declared.value.Sort.{Sort}
use Rattle.sig_core.specs.declared.value.Sort.TheVariants as sort
use Rattle.expr_core.specs.declared.expr.Op.{Op}
use Rattle.expr_core.specs.declared.expr.Op.TheVariants.{Not, And, Or, Xor, Implies, Equal, Distinct, Ite, Add, Minus, Times, Div, Mod, Abs, Less, AtMost, Greater, AtLeast}
use Rattle.sig_core.specs.Values.{same_sort}

-- the operator takes n operands
abbrev pub takes : Op → ℕ → Bool
takes Not n = nat_eq n 1
takes And n = nat_le 1 n
takes Or n = nat_le 1 n
takes Xor n = nat_le 2 n
takes Implies n = nat_le 2 n
takes Equal n = nat_le 2 n
takes Distinct n = nat_le 2 n
takes Ite n = nat_eq n 3
takes Add n = nat_le 1 n
takes Minus n = nat_le 1 n
takes Times n = nat_le 1 n
takes Div n = nat_le 2 n
takes Mod n = nat_eq n 2
takes Abs n = nat_eq n 1
takes Less n = nat_le 2 n
takes AtMost n = nat_le 2 n
takes Greater n = nat_le 2 n
takes AtLeast n = nat_le 2 n

-- the sort that a conditional wants of its operand k: of the branches that of the first branch
abbrev pub sort_of_branch : List Sort → ℕ → Option Sort
sort_of_branch sorts zero = Some sort.Bool
sort_of_branch sorts (suc k) = slice_get sorts 1

-- the sort that the operator wants of its operand k, where its operands have these sorts
abbrev pub wanted_sort : Op → List Sort → ℕ → Option Sort
wanted_sort Not sorts k = Some sort.Bool
wanted_sort And sorts k = Some sort.Bool
wanted_sort Or sorts k = Some sort.Bool
wanted_sort Xor sorts k = Some sort.Bool
wanted_sort Implies sorts k = Some sort.Bool
wanted_sort Equal sorts k = slice_get sorts 0
wanted_sort Distinct sorts k = slice_get sorts 0
wanted_sort Ite sorts k = sort_of_branch sorts k
wanted_sort Add sorts k = Some sort.Int
wanted_sort Minus sorts k = Some sort.Int
wanted_sort Times sorts k = Some sort.Int
wanted_sort Div sorts k = Some sort.Int
wanted_sort Mod sorts k = Some sort.Int
wanted_sort Abs sorts k = Some sort.Int
wanted_sort Less sorts k = Some sort.Int
wanted_sort AtMost sorts k = Some sort.Int
wanted_sort Greater sorts k = Some sort.Int
wanted_sort AtLeast sorts k = Some sort.Int

-- the sort that the operator states of its result, where its operands have these sorts
abbrev pub stated_result : Op → List Sort → Sort
stated_result Not sorts = sort.Bool
stated_result And sorts = sort.Bool
stated_result Or sorts = sort.Bool
stated_result Xor sorts = sort.Bool
stated_result Implies sorts = sort.Bool
stated_result Equal sorts = sort.Bool
stated_result Distinct sorts = sort.Bool
stated_result Ite sorts = unwrap_or (slice_get sorts 1) sort.Bool
stated_result Add sorts = sort.Int
stated_result Minus sorts = sort.Int
stated_result Times sorts = sort.Int
stated_result Div sorts = sort.Int
stated_result Mod sorts = sort.Int
stated_result Abs sorts = sort.Int
stated_result Less sorts = sort.Bool
stated_result AtMost sorts = sort.Bool
stated_result Greater sorts = sort.Bool
stated_result AtLeast sorts = sort.Bool

-- the sort is the wanted one, if one is wanted
abbrev pub is_wanted : Option Sort → Sort → Bool
is_wanted None s = true
is_wanted (Some t) s = same_sort t s

-- each of the sorts is the wanted one, where the first is that of operand k
abbrev pub are_wanted : (ℕ → Option Sort) → ℕ → List Sort → Bool
are_wanted want k [] = true
are_wanted want k (s ∷ ss) = is_wanted (want k) s && are_wanted want (suc k) ss

-- the sort of an operator's result, if its operands are as many and of the sorts that it wants
abbrev pub result_sort : Op → List Sort → Option Sort
result_sort op sorts = if takes op (length sorts) && are_wanted (wanted_sort op sorts) 0 sorts then Some (stated_result op sorts) else None
