use Rattle.std.proofs.Common.{◌≤◌, take, All}
use Rattle.example_terms.proofs.languages.none_later.Given as goal

-- the constructors before k don't stand under a later type
abbrev pub invariant-loop-k : goal.invariant-loop-k
invariant-loop-k l = All (λ c. c.owner.0 ≤ l.owner.0) (take l.k l.signature.constructors)
