-- What is true of every grammar.
use Rattle.std.specs.Prelude.{◌<◌, ◌^◌, List, length, All}
use Rattle.grammar_core.specs.Grammars.{Nonterminal, IsKnown}

-- the children of each production are nonterminals of the grammar
abbrev pub AllKnown : List Nonterminal → List Nonterminal → Type 0
AllKnown grammar = All (λ n. All (λ p. All (IsKnown grammar) p.args) n.productions)

-- each nonterminal has a number of 16 bits, and no child is unknown
pub record IsGrammar (grammar : List Nonterminal) : Type 0 where
  pub size : length grammar < 2 ^ 16
  pub known : AllKnown grammar grammar
