-- Grammars of terms, their languages, and what their start leads to.
use Rattle.std.specs.Prelude.{ℕ, ◌<◌, Bool, ◌&&◌, nat_eq, IsTrue, List, [], map, sum_by, length, slice_index_or, Contains}
use Rattle.std.specs.List.{list_any}
use lib.Pointwise.{pointwise}
use Rattle.grammar_core.specs.declared.ids.NtId.{NtId}
pub use Rattle.grammar_core.specs.declared.production.Nonterminal.{Nonterminal}
use Rattle.grammar_core.specs.declared.production.Production.{Production}
use Rattle.term_core.specs.declared.tree.Tree.{Tree}
use Rattle.term_core.specs.declared.tree.Tree.TheOpen.{Tree-F}
use Rattle.term_core.specs.declared.tree.Tree.TheFolds.{fold-Tree}

-- what a number stands for that is no nonterminal's: it has no production
abbrev pub blank : Nonterminal
blank = record { name = []; owner = record { 0 = 0 }; productions = [] }

-- the nonterminal with this number
abbrev pub nonterminal_at : List Nonterminal → NtId → Nonterminal
nonterminal_at grammar n = slice_index_or grammar n.0 blank

abbrev pub IsKnown : List Nonterminal → NtId → Type 0
IsKnown grammar n = n.0 < length grammar

abbrev pub names_of : List Nonterminal → List (List ℕ)
names_of grammar = map (λ n. n.name) grammar

abbrev pub productions_of : List Nonterminal → NtId → List Production
productions_of grammar n = (nonterminal_at grammar n).productions

-- how many productions stand in all
abbrev pub production_count : List Nonterminal → ℕ
production_count grammar = sum_by (λ n. length n.productions) grammar

-- some production of n has the constructor, and each child is of the nonterminal at its place
abbrev pub member_step : List Nonterminal → Tree-F (NtId → Bool) → NtId → Bool
member_step grammar t n = list_any (λ p. nat_eq p.con.0 t.con.0 && pointwise (λ kid m. kid m) t.kids p.args) (productions_of grammar n)

abbrev pub is_member : List Nonterminal → Tree → NtId → Bool
is_member grammar = fold-Tree (NtId → Bool) (member_step grammar)

-- t is of the language of n
abbrev pub Lang : List Nonterminal → NtId → Tree → Type 0
Lang grammar n t = IsTrue (is_member grammar t n)

abbrev pub start : NtId
start = record { 0 = 0 }

-- some production of n has m for a child
pub record Leads (grammar : List Nonterminal) (n m : NtId) : Type 0 where
  pub production : Production
  pub stands : Contains (productions_of grammar n) production
  pub child : Contains production.args m

-- from n to m by productions, in any number of steps
pub data Reaches : List Nonterminal → NtId → NtId → Type 0 where
  itself : {grammar : List Nonterminal} {n : NtId} → Reaches grammar n n
  onward : {grammar : List Nonterminal} {n m k : NtId} → Reaches grammar n m → Leads grammar m k → Reaches grammar n k
