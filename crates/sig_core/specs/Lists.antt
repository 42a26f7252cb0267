-- Words on lists that the other files share.
use Rattle.std.specs.Prelude.{ℕ, suc, Bool, true, ◌&&◌, max, Option, Some, None, option_map, List, [], ◌∷◌}

-- all the values, if each is there
abbrev pub all_some : {X : Type 0} → List (Option X) → Option (List X)
all_some [] = Some []
all_some (None ∷ os) = None
all_some (Some x ∷ os) = option_map (λ xs. x ∷ xs) (all_some os)

-- b, and each element and the next pass the test, from x on
abbrev pub chain_from : {X : Type 0} → (X → X → Bool) → Bool → X → List X → Bool
chain_from r b x [] = b
chain_from r b x (y ∷ ys) = chain_from r (b && r x y) y ys

-- each element and the next pass the test
abbrev pub chained : {X : Type 0} → (X → X → Bool) → List X → Bool
chained r [] = true
chained r (x ∷ xs) = chain_from r true x xs

-- n, n + 1, .. to the given length
abbrev pub numbers_from : {X : Type 0} → ℕ → List X → List ℕ
numbers_from n [] = []
numbers_from n (x ∷ xs) = n ∷ numbers_from (suc n) xs

abbrev pub greatest : List ℕ → ℕ
greatest [] = 0
greatest (n ∷ ns) = max n (greatest ns)
