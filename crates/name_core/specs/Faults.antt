-- The bad nodes of a command, as lists of faults in the order of the tree: a node before its items, items from the left,
-- and at one node the least reason first.
use Rattle.std.specs.Prelude.{ℕ, ◌+◌, Bool, nat_lt, if◌then◌else◌, Option, Some, None, List, [], ◌∷◌, ◌++◌, map}
use Rattle.sexpr_core.specs.declared.form.Sexpr.{Sexpr}
use Rattle.syntax_core.specs.declared.fault.Fault.{Fault}
use Rattle.syntax_core.specs.declared.roles.Due.TheVariants.{One}
use Rattle.syntax_core.specs.declared.roles.Role.TheVariants as role
use Rattle.syntax_core.specs.Misfits.{misfits}
use Rattle.syntax_core.specs.Shapes.{refusal}

-- a node at a place that is bad by a reason where the test says so
abbrev pub bad_if : Bool → ℕ → ℕ → List Fault
bad_if test reason place = if test then refusal place reason ∷ [] else []

-- a node that is the one with this number, from 0, of a kind of which there may be so many
abbrev pub past : ℕ → ℕ → ℕ → ℕ → List Fault
past most limit number place = if nat_lt number most then [] else record { place = place; reason = 50; limit = limit } ∷ []

-- what is found in each item, by its number, where the first has this one
abbrev pub found_from : {X Y : Type 0} → (ℕ → X → List Y) → ℕ → List X → List Y
found_from find n [] = []
found_from find n (x ∷ xs) = find n x ++ found_from find (n + 1) xs

-- what is found in each item, with the items before it in view
abbrev pub found_after : {X Y : Type 0} → (List X → X → List Y) → List X → List X → List Y
found_after find before [] = []
found_after find before (x ∷ xs) = find before x ++ found_after find (before ++ x ∷ []) xs

abbrev pub found : {X Y : Type 0} → (List X → X → List Y) → List X → List Y
found find xs = found_after find [] xs

abbrev pub first : List Fault → Option Fault
first [] = None
first (fault ∷ faults) = Some fault

-- the nodes that break the shape of a command
abbrev pub shapes : Sexpr → List Fault
shapes form = map (λ place. refusal place 10) (misfits (One role.Command) form)
