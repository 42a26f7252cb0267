use Rattle.std.proofs.Common.{◌≡◌, ◌≤◌, length, All}
use Rattle.signature_tests.proofs.limits.fill.Given as goal

-- the constructors are those of the one type
abbrev pub invariant-loop-number : goal.invariant-loop-number
invariant-loop-number l = record {
  one_type : length l.signature.types ≡ 1;
  owners : All (λ c. c.owner.0 ≤ 0) l.signature.constructors;
}
