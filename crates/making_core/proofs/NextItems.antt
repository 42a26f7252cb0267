-- Steps of loops that add one item after the other.
use Rattle.std.proofs.Common.{◌≡◌, ◌<◌, ◌+◌, ℕ, Option, Some, None, List, ◌∷◌, map, drop, length, get_or, sym, ap, ◌∙◌}
use Rattle.std.specs.Option.{IfNone}
use Rattle.std.proofs.lemmas.List.{drop_more}

-- what is left begins with the item at hand
pub next_is : {X : Type 0} (xs : List X) (i : ℕ) (x : X) → i < length xs → x ≡ get_or xs i x → drop i xs ≡ x ∷ drop (i + 1) xs
next_is xs i x within is = drop_more xs i x within ∙ ap (λ y. y ∷ drop (i + 1) xs) (sym is)

pub next_made : {X Y : Type 0} (f : X → Y) (xs : List X) (i : ℕ) (x : X) → i < length xs → x ≡ get_or xs i x → map f (drop i xs) ≡ f x ∷ map f (drop (i + 1) xs)
next_made f xs i x within is = ap (map f) (next_is xs i x within is)

-- what holds where nothing is refused
pub where_none : {X P : Type 0} (o : Option X) → o ≡ None → IfNone o P → P
where_none None e h = h
where_none (Some x) e h = absurd (cc)
