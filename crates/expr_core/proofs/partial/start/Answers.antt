use Rattle.std.proofs.Common.{refl}
use Rattle.std.specs.Prelude.{int_lt, int_le}
use Rattle.expr_core.specs.declared.expr.Op.TheVariants.{Less, AtMost, Greater, AtLeast}
use Rattle.expr_core.proofs.Neighbours.{relates, from_number, from_equal, less, at_most, greater, at_least}
use Rattle.expr_core.proofs.partial.start.Goals as goal

pub returns-in-Less-Int : goal.returns-in-Less-Int
returns-in-Less-Int c = relates c.in-Less-Int.is-0 c.in-Less-Int.is-1 (from_number Less int_lt less c.in-Less-Int.field-0-1)

pub returns-in-AtMost-Int : goal.returns-in-AtMost-Int
returns-in-AtMost-Int c = relates c.in-AtMost-Int.is-0 c.in-AtMost-Int.is-1 (from_number AtMost int_le at_most c.in-AtMost-Int.field-0-1)

pub returns-in-Greater-Int : goal.returns-in-Greater-Int
returns-in-Greater-Int c = relates c.in-Greater-Int.is-0 c.in-Greater-Int.is-1 (from_number Greater (λ m n. int_lt n m) greater c.in-Greater-Int.field-0-1)

pub returns-in-AtLeast-Int : goal.returns-in-AtLeast-Int
returns-in-AtLeast-Int c = relates c.in-AtLeast-Int.is-0 c.in-AtLeast-Int.is-1 (from_number AtLeast (λ m n. int_le n m) at_least c.in-AtLeast-Int.field-0-1)

pub returns-in-Equal-default : goal.returns-in-Equal-default
returns-in-Equal-default c = relates c.in-Equal-default.is-0 refl (from_equal c.args.first)
