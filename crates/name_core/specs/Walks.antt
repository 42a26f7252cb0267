-- The limits of bodies, cases and functions, where the rules are numbered from one to the next.
use Rattle.std.specs.Prelude.{ℕ, ◌+◌, List, [], ◌∷◌, ◌++◌, length}
use Rattle.std.specs.List.{flat_map}
use Rattle.syntax_core.specs.declared.fault.Fault.{Fault}
use Rattle.syntax_core.specs.declared.syntax.Body.{Body}
use Rattle.syntax_core.specs.declared.syntax.Body.TheOpen.{Body-F, Scope-F}
use Rattle.syntax_core.specs.declared.syntax.Body.TheFolds.{fold-Body}
use Rattle.name_core.specs.Bodies.{Site}
use Rattle.name_core.specs.Faults.{past}
use Rattle.name_core.specs.Limits.{long_name, pairs_limits}

-- what is found in each item by its number, where an item counts for so many
abbrev pub counted : {X : Type 0} → (X → ℕ) → (ℕ → X → List Fault) → ℕ → List X → List Fault
counted size find n [] = []
counted size find n (x ∷ xs) = find n x ++ counted size find (n + size x) xs

-- how many of the items' parts there are
abbrev pub total : {X : Type 0} → (X → ℕ) → List X → ℕ
total size [] = 0
total size (x ∷ xs) = size x + total size xs

-- a body: how many rules it makes, and its limits, by the number of slots around it and of rules before it
pub record Walk : Type 0 where
  pub rules : ℕ
  pub limits : ℕ → ℕ → List Fault

abbrev pub walk_step : Body-F Walk Walk → Walk
walk_step (Body-F.Fork scope) = scope
walk_step (Body-F.Leaf l) = record { rules = 1; limits = λ slots rules. past 16384 11 rules l.place }

abbrev pub walk_of_scope : Scope-F Walk Walk → Walk
walk_of_scope scope = record {
  rules = total (λ w. w.rules) scope.bodies;
  limits = λ slots rules. pairs_limits 64 10 slots scope.pairs ++ counted (λ w. w.rules) (λ n w. w.limits (slots + length scope.pairs) n) rules scope.bodies;
}

abbrev pub walk : Body → Walk
walk = fold-Body Walk Walk walk_step walk_of_scope

abbrev pub rules_of_body : Body → ℕ
rules_of_body body = (walk body).rules

-- a body, where so many slots are around it and so many rules come before it
abbrev pub body_limits : ℕ → ℕ → Body → List Fault
body_limits slots rules body = (walk body).limits slots rules

abbrev pub bodies_limits : ℕ → ℕ → List Body → List Fault
bodies_limits slots rules bodies = counted rules_of_body (body_limits slots) rules bodies

abbrev pub rules_of_site : Site → ℕ
rules_of_site site = rules_of_body site.case.body

-- a case, where so many rules come before it
abbrev pub site_limits : ℕ → Site → List Fault
site_limits rules site = flat_map long_name site.case.pattern.variables ++ body_limits (length site.function.declaration.params) rules site.case.body

abbrev pub sites_limits : ℕ → List Site → List Fault
sites_limits rules sites = counted rules_of_site site_limits rules sites
