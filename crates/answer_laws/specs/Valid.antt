-- Valid answers that are printed.
use Rattle.std.specs.Prelude.{◌≡◌, ◌<◌, ◌≤◌, ◌^◌, ℕ, Ok, length, All, Contains}
use Rattle.term_core.specs.Terms.{size}
use Rattle.problem_core.specs.Problems.{Parts}
use Rattle.problem_core.specs.Soundness.{IsSound}
use Rattle.answer_core.specs.declared.answer.Verdict.TheVariants as verdict
use Rattle.answer_core.specs.Readings.{TreeAnswer, nothing, reading}
use Rattle.answer_core.specs.Verdicts.{IsVerdict}
use Rattle.answer_laws.specs.Answers.{SpellsAll, text_of_answer}
use Rattle.answer_laws.specs.Names.{term_nesting, HasSpelledNames}

-- The term has fewer than 2 ^ 32 constructors, and its text in the list of its line nests at most 200 deep. Each
-- constraint has a step, each step is on a node of the term, and the steps have numbers of 64 bits.
pub record IsListed (problem : Parts) (answer : TreeAnswer) : Type 0 where
  pub small : size answer.term < 2 ^ 32
  pub nests : term_nesting answer.term ≤ 199
  pub each : length answer.derived ≡ length problem.constraints
  pub listed : All (λ step. Contains answer.nodes step.node) answer.steps
  pub few_steps : length answer.steps ≤ 2 ^ 64

-- a valid answer to a sound problem is printed in forms that are read as the answer, wherever the text ends
abbrev pub ValidAnswersReadBack : Type 0
ValidAnswersReadBack = (problem : Parts) → IsSound problem → HasSpelledNames problem.signature → (height : ℕ) (answer : TreeAnswer) → IsVerdict problem height answer verdict.Valid → IsListed problem answer
    → SpellsAll (text_of_answer problem.signature answer) (λ forms. (end : ℕ) → reading problem.signature (length problem.constraints) end forms nothing ≡ Ok answer)
