-- The limits of a grammar that is added to item by item.
use Rattle.std.specs.Prelude.{◌≤◌, List, length}
use Rattle.sig_core.specs.Names.{AreDistinct}
use Rattle.grammar_core.specs.Grammars.{Nonterminal, names_of, production_count}

-- at most 256 nonterminals of different names, and at most 4,096 productions in all
pub record KeepsLimits (grammar : List Nonterminal) : Type 0 where
  pub few : length grammar ≤ 256
  pub few_productions : production_count grammar ≤ 4096
  pub distinct : AreDistinct (names_of grammar)
