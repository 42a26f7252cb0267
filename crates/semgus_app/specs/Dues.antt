-- What is due for a task and the bytes of its files.
use Rattle.std.specs.Prelude.{◌≡◌, ℕ, List, Some, None, Ok, Err}
use Rattle.problem_core.specs.Problems.{Parts, IsAnswer}
use Rattle.problem_core.specs.Texts.{problem_text}
use Rattle.semgus_app.specs.declared.status.Status.{Status}
use Rattle.semgus_app.specs.declared.status.Status.TheVariants as status
use Rattle.syntax_core.specs.declared.fault.Fault.{Fault}
use Rattle.semgus_app.specs.declared.status.Which.TheVariants as which
use Rattle.checking_core.specs.declared.check.Checked.TheVariants as checked
use Rattle.checking_core.specs.declared.check.Flaw.{Flaw}
use Rattle.solution_core.specs.Answers.{IsAnswerText}
use Rattle.checking_core.specs.Checks.{Checks}
use Rattle.semgus_app.specs.Files.{Inputs}
use Rattle.semgus_app.specs.Lines.{none_line, valid_line, flaw_line, refusal_line}
use Rattle.elab_core.specs.Judging.{Judges}
use Rattle.semgus_app.specs.Tasks.{Task, NamedFile, problem_file, solve, show, check}

-- the status and the text that are due for the task and the bytes of its files
pub data IsDue (inputs : Inputs) : Task → Status → List ℕ → Type 0 where
  refused : (task : Task) (file : NamedFile) (fault : Fault) →
      problem_file task ≡ Some file → Judges inputs.problem (Err fault) →
      IsDue inputs task (status.Refused which.Problem fault) (refusal_line which.Problem fault)
  found : (file : List ℕ) (height size : ℕ) (problem : Parts) (text : List ℕ) →
      Judges inputs.problem (Ok problem) → IsAnswerText problem height size text →
      IsDue inputs (solve file height size) status.Found text
  no_term : (file : List ℕ) (height size : ℕ) (problem : Parts) →
      Judges inputs.problem (Ok problem) → IsAnswer problem height size None →
      IsDue inputs (solve file height size) status.NoTerm none_line
  shown : (file : List ℕ) (problem : Parts) →
      Judges inputs.problem (Ok problem) →
      IsDue inputs (show file) status.Shown (problem_text problem)
  answer_refused : (file answer : List ℕ) (height : ℕ) (problem : Parts) (fault : Fault) →
      Judges inputs.problem (Ok problem) → Checks problem height inputs.second (checked.Refused fault) →
      IsDue inputs (check file answer height) (status.Refused which.Answer fault) (refusal_line which.Answer fault)
  invalid : (file answer : List ℕ) (height : ℕ) (problem : Parts) (flaw : Flaw) →
      Judges inputs.problem (Ok problem) → Checks problem height inputs.second (checked.Invalid flaw) →
      IsDue inputs (check file answer height) (status.Invalid flaw) (flaw_line flaw)
  valid : (file answer : List ℕ) (height : ℕ) (problem : Parts) →
      Judges inputs.problem (Ok problem) → Checks problem height inputs.second checked.Valid →
      IsDue inputs (check file answer height) status.Valid valid_line
