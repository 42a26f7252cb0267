-- The names of the operators.
use Rattle.std.specs.Prelude.{◌≡◌, ℕ, if◌then◌else◌, Option, Some, None, List, codes}
use Rattle.sig_core.specs.Names.{same_name}
use Rattle.expr_core.specs.declared.expr.Op.{Op}
use Rattle.expr_core.specs.declared.expr.Op.TheVariants as op

-- the name that the theories Core and Ints of SMT-LIB 2.6 give the operator
abbrev pub operator_name : Op → List ℕ
operator_name op.Not = codes "not"
operator_name op.And = codes "and"
operator_name op.Or = codes "or"
operator_name op.Xor = codes "xor"
operator_name op.Implies = codes "=>"
operator_name op.Equal = codes "="
operator_name op.Distinct = codes "distinct"
operator_name op.Ite = codes "ite"
operator_name op.Add = codes "+"
operator_name op.Minus = codes "-"
operator_name op.Times = codes "*"
operator_name op.Div = codes "div"
operator_name op.Mod = codes "mod"
operator_name op.Abs = codes "abs"
operator_name op.Less = codes "<"
operator_name op.AtMost = codes "<="
operator_name op.Greater = codes ">"
operator_name op.AtLeast = codes ">="

-- the operator of the theory Ints with this name
abbrev pub number_operator_named : List ℕ → Option Op
number_operator_named name =
    if same_name (codes "+") name then Some op.Add
    else if same_name (codes "-") name then Some op.Minus
    else if same_name (codes "*") name then Some op.Times
    else if same_name (codes "div") name then Some op.Div
    else if same_name (codes "mod") name then Some op.Mod
    else if same_name (codes "abs") name then Some op.Abs
    else if same_name (codes "<") name then Some op.Less
    else if same_name (codes "<=") name then Some op.AtMost
    else if same_name (codes ">") name then Some op.Greater
    else if same_name (codes ">=") name then Some op.AtLeast
    else None

-- the operator with this name
abbrev pub operator_named : List ℕ → Option Op
operator_named name =
    if same_name (codes "not") name then Some op.Not
    else if same_name (codes "and") name then Some op.And
    else if same_name (codes "or") name then Some op.Or
    else if same_name (codes "xor") name then Some op.Xor
    else if same_name (codes "=>") name then Some op.Implies
    else if same_name (codes "=") name then Some op.Equal
    else if same_name (codes "distinct") name then Some op.Distinct
    else if same_name (codes "ite") name then Some op.Ite
    else number_operator_named name

-- an operator is found by its name
abbrev pub FoundByName : Type 0
FoundByName = (o : Op) → operator_named (operator_name o) ≡ Some o

-- a name by which an operator is found is the operator's
abbrev pub NameOfFound : Type 0
NameOfFound = (name : List ℕ) (o : Op) → operator_named name ≡ Some o → operator_name o ≡ name
