-- What holds of every accepted text, and of the answers to it.
use Rattle.std.specs.Prelude.{◌≤◌, ℕ, Ok, List, length}
use Rattle.problem_core.specs.Problems.{Parts}
use Rattle.problem_core.specs.Soundness.{IsSound}
use Rattle.elab_core.specs.Judging.{Judges}
use Rattle.answer_laws.specs.Names.{HasSpelledNames}
use Rattle.semgus_app.specs.declared.status.Status.TheVariants as status
use Rattle.solution_core.specs.Answers.{IsAnswerText}
use Rattle.semgus_app.specs.Dues.{IsDue}
use Rattle.semgus_app.specs.Lines.{valid_line}
use Rattle.semgus_app.specs.Tasks.{check}
use Rattle.solution_core.specs.Bounds.{IsHeight, IsSize}

abbrev pub JudgedNamesAreSpelled : Type 0
JudgedNamesAreSpelled = (bytes : List ℕ) (problem : Parts) → Judges bytes (Ok problem) → HasSpelledNames problem.signature

abbrev pub JudgedProblemsAreSound : Type 0
JudgedProblemsAreSound = (bytes : List ℕ) (problem : Parts) → Judges bytes (Ok problem) → IsSound problem

-- the text of an answer that was found, as an answer file beside the same problem, is due to be valid within the same height
abbrev pub FoundAnswersAreValid : Type 0
FoundAnswersAreValid = (bytes : List ℕ) (problem : Parts) (height size : ℕ) (text file answer : List ℕ) → IsHeight height → IsSize size → Judges bytes (Ok problem)
    → IsAnswerText problem height size text → length text ≤ 8388608 → IsDue (record { problem = bytes; second = text }) (check file answer height) status.Valid valid_line
