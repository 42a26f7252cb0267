-- What a grammar keeps: its nonterminals, the number of its productions, and its marks.
use Rattle.std.specs.Prelude.{◌≡◌, ℕ, ◌<◌, List, length}
use Rattle.grammar_core.specs.declared.marks.Marks.{Marks}
use Rattle.grammar_core.specs.Grammars.{Nonterminal, production_count, start}
use Rattle.grammar_core.specs.Marks.{AreMarks, IsClosed, IsMarked, MarksReached}
use Rattle.grammar_core.specs.WellFormed.{IsGrammar}

pub record IsKept (grammar : List Nonterminal) (count : ℕ) (marks : Marks) : Type 0 where
  pub fine : IsGrammar grammar
  pub counted : count ≡ production_count grammar
  pub marked : AreMarks marks
  pub size : length marks.flags ≡ length grammar
  pub first : 0 < length grammar → IsMarked marks.flags start
  pub reached : MarksReached grammar marks.flags
  pub closed : IsClosed grammar marks.flags
