-- The numbers of a book's rules: under each relation and constructor, under each relation, and under each constructor.
use Rattle.std.specs.Prelude.{◌≡◌, ℕ, Bool, ◌&&◌, nat_eq, List, []}
use Rattle.tables.specs.Tables.{list_at, places}
use Rattle.rule_core.specs.declared.numbers.Numbers.{Numbers}
use Rattle.rule_core.specs.declared.rule.Rule.{Rule}

abbrev pub same_pair : ℕ × ℕ → ℕ × ℕ → Bool
same_pair p q = nat_eq p.0 q.0 && nat_eq p.1 q.1

-- the rule is of the relation and the constructor with these numbers
abbrev pub is_for : ℕ × ℕ → Rule → Bool
is_for pair rule = same_pair (rule.relation.0, rule.con.0) pair

-- the rule is of the relation with this number
abbrev pub is_of : ℕ → Rule → Bool
is_of relation rule = nat_eq rule.relation.0 relation

-- the rule is for the constructor with this number
abbrev pub is_with : ℕ → Rule → Bool
is_with con rule = nat_eq rule.con.0 con

-- the tables have the numbers of these rules
pub record HaveNumbers (numbers : Numbers) (rules : List Rule) : Type 0 where
  pub of_pairs : (pair : ℕ × ℕ) → list_at same_pair numbers.pairs pair ≡ places (is_for pair) 0 rules
  pub of_relations : (relation : ℕ) → list_at nat_eq numbers.relations relation ≡ places (is_of relation) 0 rules
  pub of_constructors : (con : ℕ) → list_at nat_eq numbers.constructors con ≡ places (is_with con) 0 rules

-- no list has a number
abbrev pub IsWithout : Numbers → Type 0
IsWithout numbers = HaveNumbers numbers []
