-- Names that a test finds short.
use Rattle.std.proofs.Common.{◌≡◌, ◌≤◌, ℕ, true, nat_le, List, [], ◌∷◌, length, All, arith}
use Rattle.std.specs.List.{list_all}
use Rattle.std.proofs.lemmas.Bool.Decides.{nat_tests}
use Rattle.std.proofs.lemmas.List.Elements.{All-cons, All-nil}
use Rattle.problem_core.specs.Soundness.{IsShort}
use Rattle.example_relations.proofs.Names.{both}

at_most : (m n : ℕ) → nat_le m n ≡ true → m ≤ n
at_most m n e = grind (arith, nat_tests)

pub short_by_test : (names : List (List ℕ)) → list_all (λ name. nat_le (length name) 1024) names ≡ true → All IsShort names
short_by_test [] e = All-nil IsShort
short_by_test (name ∷ names) e =
    let p = both (nat_le (length name) 1024) (list_all (λ name. nat_le (length name) 1024) names) e in
    All-cons IsShort name names (at_most (length name) 1024 p.0) (short_by_test names p.1)
