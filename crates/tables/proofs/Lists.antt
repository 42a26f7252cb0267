-- Lists that lose what they gained.
use Rattle.std.proofs.Common.{◌≡◌, ℕ, ◌-◌, Bool, true, false, if◌then◌else◌, List, [], ◌∷◌, ◌++◌, length, ap, ◌∙◌, arith}
use Rattle.std.proofs.lemmas.List.{append-nil, take_at, length_push}
use Rattle.indexmap.specs.IndexMap.{IndexMap}
use Rattle.tables.specs.Tables.{front, list_at, Gains, Keeps, Loses}

-- the last item is taken away again
pub front-push : {X : Type 0} (xs : List X) (x : X) → front (xs ++ x ∷ []) ≡ xs
front-push xs x = take_at xs (x ∷ []) (length (xs ++ x ∷ []) - 1) (let e = length_push xs x in omega arith)

undone : (b : Bool) (n : ℕ) (xs ys : List ℕ) → ys ≡ xs ++ (if b then n ∷ [] else []) → (if b then front ys else ys) ≡ xs
undone true n xs ys e = ap front e ∙ front-push xs n
undone false n xs ys e = e ∙ append-nil xs

-- a number that went last and was taken away again
pub Keeps-undone : {K S : Type 0} (eq : K → K → Bool) (old more new : IndexMap K (List ℕ) S) (key : K) (n : ℕ) → Gains eq old more key n → Loses eq more new key → Keeps eq old new
Keeps-undone eq old more new key n gains loses q = loses q ∙ undone (eq key q) n (list_at eq old q) (list_at eq more q) (gains q)
