-- Where the nodes of forms stand in a text, and in which order the faults of a command are found.
use Rattle.std.specs.Prelude.{◌≡◌, ◌<◌, ℕ, Some, None, List, [], ◌∷◌, AllPairs}
use Rattle.std.specs.List.{flat_map}
use Rattle.sexpr_core.specs.declared.form.Sexpr.{Sexpr}
use Rattle.sexpr_core.specs.declared.form.Sexpr.TheOpen.{Sexpr-F, Nest-F}
use Rattle.sexpr_core.specs.declared.form.Sexpr.TheFolds.{fold-Sexpr}
use Rattle.sexpr_core.specs.Access.{parts_of}
use Rattle.syntax_core.specs.declared.commands.Head.{Head}
use Rattle.syntax_core.specs.declared.fault.Fault.{Fault}
use Rattle.syntax_core.specs.Roles.{head_of}
use Rattle.name_core.specs.Faults.{first, shapes}

abbrev pub places_step : Sexpr-F (List ℕ) (List ℕ) → List ℕ
places_step (Sexpr-F.Symbol a) = a.place ∷ []
places_step (Sexpr-F.Numeral a) = a.place ∷ []
places_step (Sexpr-F.Text a) = a.place ∷ []
places_step (Sexpr-F.Keyword a) = a.place ∷ []
places_step (Sexpr-F.List inside) = inside

abbrev pub places_of_nest : Nest-F (List ℕ) (List ℕ) → List ℕ
places_of_nest n = n.place ∷ flat_map (λ places. places) n.items

-- the places of a form's nodes, a list before its items and the items from the left
abbrev pub places_in : Sexpr → List ℕ
places_in = fold-Sexpr (List ℕ) (List ℕ) places_step places_of_nest

-- the places rise from each to the next
abbrev pub Rise : List ℕ → Type 0
Rise places = AllPairs (λ one other. one < other) places

-- a fault comes before another: it is further left, or at the same node of a lesser reason, or of a lesser limit
pub data IsBefore (one other : Fault) : Type 0 where
  further_left : one.place < other.place → IsBefore one other
  lesser_reason : one.place ≡ other.place → one.reason < other.reason → IsBefore one other
  lesser_limit : one.place ≡ other.place → one.reason ≡ other.reason → one.limit < other.limit → IsBefore one other

-- The faults come one before the other. So the first of them is at the leftmost bad node, with the least reason there.
abbrev pub AreInOrder : List Fault → Type 0
AreInOrder faults = AllPairs IsBefore faults

-- a command of this word that has its shape
pub record IsShaped (h : Head) (form : Sexpr) : Type 0 where
  pub word : head_of (parts_of form) ≡ Some h
  pub shape : first (shapes form) ≡ None
