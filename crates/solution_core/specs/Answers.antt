-- The answer to a problem, with a bound on the height of derivations and one on the size of terms.
use Rattle.std.specs.Prelude.{ℕ, List, Some}
use Rattle.term_core.specs.declared.tree.Tree.{Tree}
use Rattle.problem_core.specs.Problems.{Parts, IsAnswer}
use Rattle.deriv_core.specs.Steps.{TreeStep}
use Rattle.extract_core.specs.Derivings.{IsDerivation}
use Rattle.answer_core.specs.AnswerText as printed

-- The text is that of the first solving term, with derivations of each constraint on it: valid within the height,
-- each of its fact's least height, none twice and none unused.
pub record IsAnswerText (parts : Parts) (height size : ℕ) (text : List ℕ) : Type 0 where
  pub term : Tree
  pub first : IsAnswer parts height size (Some term)
  pub steps : List TreeStep
  pub derived : List ℕ
  pub derivation : IsDerivation parts height term steps derived
  pub text_is : printed.IsAnswerText parts.signature term steps derived text
