-- The walk of each kind of body.
use Rattle.std.proofs.Common.{◌≡◌, ◌+◌, ℕ, ◌++◌, map, length, ap, ◌∙◌, rules}
use Rattle.std.specs.Option.{option_or}
use Rattle.syntax_core.specs.declared.syntax.Body.{the_lemmas}
use Rattle.syntax_core.specs.declared.syntax.Body as body
use Rattle.syntax_core.specs.declared.syntax.Leaf.{Leaf}
use Rattle.syntax_core.specs.declared.syntax.Scope.{Scope}
use Rattle.name_core.specs.Faults.{first, past}
use Rattle.name_core.specs.Limits.{pairs_limits}
use Rattle.name_core.specs.Walks.{Walk, bodies_limits, body_limits, counted, rules_of_body, total, walk}
use Rattle.name_core.proofs.Firsts.{first-append, first-found_from, first-found_after, first-flat_map}
use Rattle.name_core.proofs.Numbering.{counted-map, first-counted, first-counted-append, total-append, total-map}

walk-Leaf : (l : Leaf) → walk (body.Leaf l) ≡ record { rules = 1; limits = λ slots rules. past 16384 11 rules l.place }
walk-Leaf l = search (rules, the_lemmas)

walk-Fork : (scope : Scope) → walk (body.Fork scope) ≡ record {
  rules = total (λ w. w.rules) (map walk scope.bodies);
  limits = λ slots rules. pairs_limits 64 10 slots scope.pairs ++ counted (λ w. w.rules) (λ n w. w.limits (slots + length scope.pairs) n) rules (map walk scope.bodies);
}
walk-Fork scope = search (rules, the_lemmas)

pub rules-Leaf : (l : Leaf) → rules_of_body (body.Leaf l) ≡ 1
rules-Leaf l = ap (λ (w : Walk). w.rules) (walk-Leaf l)

pub rules-Fork : (scope : Scope) → rules_of_body (body.Fork scope) ≡ total rules_of_body scope.bodies
rules-Fork scope = ap (λ (w : Walk). w.rules) (walk-Fork scope) ∙ total-map (λ (w : Walk). w.rules) walk scope.bodies

pub limits-Leaf : (slots rules : ℕ) (l : Leaf) → body_limits slots rules (body.Leaf l) ≡ past 16384 11 rules l.place
limits-Leaf slots rules l = ap (λ (w : Walk). w.limits slots rules) (walk-Leaf l)

pub limits-Fork : (slots rules : ℕ) (scope : Scope) →
    body_limits slots rules (body.Fork scope) ≡ pairs_limits 64 10 slots scope.pairs ++ bodies_limits (slots + length scope.pairs) rules scope.bodies
limits-Fork slots rules scope =
    ap (λ (w : Walk). w.limits slots rules) (walk-Fork scope)
    ∙ ap (λ more. pairs_limits 64 10 slots scope.pairs ++ more)
    (counted-map (λ (w : Walk). w.rules) (λ (n : ℕ) (w : Walk). w.limits (slots + length scope.pairs) n) walk rules scope.bodies)

pub first-Leaf : (slots rules : ℕ) (l : Leaf) → first (body_limits slots rules (body.Leaf l)) ≡ first (past 16384 11 rules l.place)
first-Leaf slots rules l = ap first (limits-Leaf slots rules l)

pub first-Fork : (slots rules : ℕ) (scope : Scope) → first (body_limits slots rules (body.Fork scope)) ≡
    option_or (first (pairs_limits 64 10 slots scope.pairs)) (first (bodies_limits (slots + length scope.pairs) rules scope.bodies))
first-Fork slots rules scope =
    ap first (limits-Fork slots rules scope) ∙ first-append (pairs_limits 64 10 slots scope.pairs) (bodies_limits (slots + length scope.pairs) rules scope.bodies)

pub ruleset walkings = (first-append, first-found_from, first-found_after, first-flat_map, first-counted, first-counted-append, total-append, rules-Leaf, rules-Fork, first-Leaf, first-Fork)
