-- The order of the values.
use Rattle.std.specs.Prelude.{true, false}
use Rattle.std.specs.Ordering.{int_cmp}
use Rattle.std.specs.declared.cmp.Ordering.{Ordering}
use Rattle.std.specs.declared.cmp.Ordering.TheVariants.{Less, Equal, Greater}
use Rattle.sig_core.specs.declared.value.Value.{Value}
use Rattle.sig_core.specs.declared.value.Value.TheVariants as value

-- all numbers by size, then false, then true
abbrev pub value_cmp : Value → Value → Ordering
value_cmp (value.Int m) (value.Int n) = int_cmp m n
value_cmp (value.Int m) (value.Bool b) = Less
value_cmp (value.Bool a) (value.Int n) = Greater
value_cmp (value.Bool false) (value.Bool false) = Equal
value_cmp (value.Bool false) (value.Bool true) = Less
value_cmp (value.Bool true) (value.Bool false) = Greater
value_cmp (value.Bool true) (value.Bool true) = Equal
