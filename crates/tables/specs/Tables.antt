-- Lists of numbers under keys, and the numbers of the items of a list that pass a test.
use Rattle.std.specs.Prelude.{◌≡◌, ℕ, suc, ◌-◌, Bool, if◌then◌else◌, List, [], ◌∷◌, ◌++◌, take, length}
use Rattle.std.specs.Option.{option_map_or}
use Rattle.indexmap.specs.IndexMap.{IndexMap, get}

-- the numbers of the items that pass, where the first item has the number n
abbrev pub places : {X : Type 0} → (X → Bool) → ℕ → List X → List ℕ
places p n [] = []
places p n (x ∷ xs) = if p x then n ∷ places p (suc n) xs else places p (suc n) xs

-- the list under a key, empty where none stands
abbrev pub list_at : {K S : Type 0} → (K → K → Bool) → IndexMap K (List ℕ) S → K → List ℕ
list_at eq table key = option_map_or (λ numbers. numbers) (get eq table key) []

-- the number goes last in the list under the key, and the lists under other keys stay
abbrev pub Gains : {K S : Type 0} → (K → K → Bool) → IndexMap K (List ℕ) S → IndexMap K (List ℕ) S → K → ℕ → Type 0
Gains {K} eq old new key number = (q : K) → list_at eq new q ≡ list_at eq old q ++ (if eq key q then number ∷ [] else [])

-- the list under each key stays
abbrev pub Keeps : {K S : Type 0} → (K → K → Bool) → IndexMap K (List ℕ) S → IndexMap K (List ℕ) S → Type 0
Keeps {K} eq old new = (q : K) → list_at eq new q ≡ list_at eq old q

-- without the last item
abbrev pub front : {X : Type 0} → List X → List X
front xs = take (length xs - 1) xs

-- the list under the key loses its last number, and the lists under other keys stay
abbrev pub Loses : {K S : Type 0} → (K → K → Bool) → IndexMap K (List ℕ) S → IndexMap K (List ℕ) S → K → Type 0
Loses {K} eq old new key = (q : K) → list_at eq new q ≡ (if eq key q then front (list_at eq old q) else list_at eq old q)
