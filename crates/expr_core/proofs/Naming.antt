-- An operator and its name.
use Rattle.std.proofs.Common.{◌≡◌, ℕ, Bool, true, false, if◌then◌else◌, List, Option, Some, None, refl, ap, ◌∙◌}
use Rattle.std.specs.Cmp.Lexicographic.{bytes_decides}
use Rattle.sig_core.specs.Names.{same_name}
use Rattle.expr_core.specs.declared.expr.Op.{Op}
use Rattle.expr_core.specs.declared.expr.Op.TheVariants as op
use Rattle.expr_core.specs.Names.{FoundByName, operator_name, operator_named}

pub found_by_name : FoundByName
found_by_name op.Not = refl
found_by_name op.And = refl
found_by_name op.Or = refl
found_by_name op.Xor = refl
found_by_name op.Implies = refl
found_by_name op.Equal = refl
found_by_name op.Distinct = refl
found_by_name op.Ite = refl
found_by_name op.Add = refl
found_by_name op.Minus = refl
found_by_name op.Times = refl
found_by_name op.Div = refl
found_by_name op.Mod = refl
found_by_name op.Abs = refl
found_by_name op.Less = refl
found_by_name op.AtMost = refl
found_by_name op.Greater = refl
found_by_name op.AtLeast = refl

module _ (name : List ℕ) (found : Op) where
  same : (word : List ℕ) → same_name word name ≡ true → word ≡ name
  same word h = (bytes_decides word name).0 h

  -- one word and those after it
  step : (o : Op) (rest : Option Op) → (rest ≡ Some found → operator_name found ≡ name)
      → (if same_name (operator_name o) name then Some o else rest) ≡ Some found → operator_name found ≡ name
  step o rest below = by (same_name (operator_name o) name) refl
    where
      by : (b : Bool) → same_name (operator_name o) name ≡ b → (if b then Some o else rest) ≡ Some found → operator_name found ≡ name
      by true is e = let one : found ≡ o = cc in ap operator_name one ∙ same (operator_name o) is
      by false is e = below e

  none : ◌≡◌ {A = Option Op} None (Some found) → operator_name found ≡ name
  none e = absurd cc

  pub name_of_found : operator_named name ≡ Some found → operator_name found ≡ name
  name_of_found =
      step op.Not _ (step op.And _ (step op.Or _ (step op.Xor _ (step op.Implies _ (step op.Equal _ (step op.Distinct _ (step op.Ite _
      (step op.Add _ (step op.Minus _ (step op.Times _ (step op.Div _ (step op.Mod _ (step op.Abs _ (step op.Less _ (step op.AtMost _ (step op.Greater _ (step op.AtLeast _ none)))))))))))))))))
