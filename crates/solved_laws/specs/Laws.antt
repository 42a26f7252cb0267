-- What is printed of a solving term reads back as a valid answer.
use Rattle.std.specs.Prelude.{◌≡◌, ◌≤◌, ◌^◌, ℕ, Ok, List, length}
use Rattle.sexpr_core.specs.declared.form.Sexpr.{Sexpr}
use Rattle.sexpr_core.specs.Spelling.{Spell}
use Rattle.term_core.specs.declared.tree.Tree.{Tree}
use Rattle.term_core.specs.Terms.{size}
use Rattle.grammar_core.specs.Grammars.{Lang, start}
use Rattle.problem_core.specs.Problems.{Parts}
use Rattle.problem_core.specs.Soundness.{IsSound}
use Rattle.deriv_core.specs.Steps.{TreeStep}
use Rattle.extract_core.specs.Derivings.{IsDerivation}
use Rattle.answer_core.specs.declared.answer.Verdict.TheVariants as verdict
use Rattle.answer_core.specs.AnswerText.{IsAnswerText}
use Rattle.answer_core.specs.Readings.{TreeAnswer, nothing, reading}
use Rattle.answer_core.specs.Verdicts.{IsVerdict}
use Rattle.answer_laws.specs.Names.{HasSpelledNames}

-- the answer of a term, its nodes, steps, and the number of each constraint's step
abbrev pub answer_of : Tree → List Tree → List TreeStep → List ℕ → TreeAnswer
answer_of t nodes steps derived = record { term = t; size = size t; nodes = nodes; steps = steps; derived = derived }

-- The text spells forms that are read, wherever it ends, as the answer of the term with these steps, and it is valid.
pub record ReadsValid (problem : Parts) (height : ℕ) (t : Tree) (steps : List TreeStep) (derived : List ℕ) (text : List ℕ) : Type 0 where
  pub nodes : List Tree
  pub forms : List Sexpr
  pub spelled : Spell text forms
  pub read : (end : ℕ) → reading problem.signature (length problem.constraints) end forms nothing ≡ Ok (answer_of t nodes steps derived)
  pub valid : IsVerdict problem height (answer_of t nodes steps derived) verdict.Valid

abbrev pub SolvedAnswersReadBack : Type 0
SolvedAnswersReadBack = (problem : Parts) → IsSound problem → HasSpelledNames problem.signature → (height : ℕ) (t : Tree) → Lang problem.grammar start t → size t ≤ 199
    → (steps : List TreeStep) (derived : List ℕ) → IsDerivation problem height t steps derived → length steps ≤ 2 ^ 64 → (text : List ℕ) → IsAnswerText problem.signature t steps derived text
    → ReadsValid problem height t steps derived text
