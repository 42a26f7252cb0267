-- What is found of the bytes of an answer file.
use Rattle.std.specs.Prelude.{◌≡◌, ◌<◌, ◌≤◌, ℕ, List, Result, Ok, Err, length}
use Rattle.sexpr_core.specs.declared.form.Sexpr.{Sexpr}
use Rattle.sexpr_core.specs.Prefixes.{IsFault}
use Rattle.sexpr_core.specs.Spelling.{Spell}
use Rattle.syntax_core.specs.Shapes.{refusal}
use Rattle.problem_core.specs.Problems.{Parts}
use Rattle.answer_core.specs.declared.answer.AnswerFault.{AnswerFault}
use Rattle.answer_core.specs.declared.answer.Verdict.{Verdict}
use Rattle.answer_core.specs.declared.answer.Verdict.TheVariants as verdict
use Rattle.answer_core.specs.Readings.{TreeAnswer, nothing, reading}
use Rattle.answer_core.specs.Verdicts.{IsVerdict}
use Rattle.checking_core.specs.declared.check.Checked.{Checked}
use Rattle.checking_core.specs.declared.check.Checked.TheVariants as checked
use Rattle.checking_core.specs.declared.check.Flaw.TheVariants as flaw

-- the bytes spell forms that stand for this answer to the problem, or of which this node is the first bad one
pub record Reads (problem : Parts) (bytes : List ℕ) (result : Result TreeAnswer AnswerFault) : Type 0 where
  pub short : length bytes ≤ 8388608
  pub forms : List Sexpr
  pub spelled : Spell bytes forms
  pub read : reading problem.signature (length problem.constraints) (length bytes) forms nothing ≡ result

-- what a verdict says of the file
abbrev pub checked_of : Verdict → Checked
checked_of verdict.Valid = checked.Valid
checked_of verdict.Nodes = checked.Invalid flaw.Nodes
checked_of verdict.Size = checked.Invalid flaw.Size
checked_of verdict.Grammar = checked.Invalid flaw.Grammar
checked_of (verdict.Step bad) = checked.Invalid (flaw.Step bad)
checked_of (verdict.Constraint number) = checked.Invalid (flaw.Constraint number)

-- What is found of the bytes: their length comes first, then their lexical fault, then the first bad node of their forms,
-- and then the first test that the answer fails within the height.
pub data Checks (problem : Parts) (height : ℕ) (bytes : List ℕ) : Checked → Type 0 where
  too_long : 8388608 < length bytes → Checks problem height bytes (checked.Refused (record { place = 8388608; reason = 50; limit = 2 }))
  misspelled : (place reason : ℕ) → length bytes ≤ 8388608 → IsFault bytes place reason → Checks problem height bytes (checked.Refused (refusal place reason))
  misread : (fault : AnswerFault) → Reads problem bytes (Err fault) → Checks problem height bytes (checked.Invalid (flaw.Form fault))
  judged : (answer : TreeAnswer) (found : Verdict) → Reads problem bytes (Ok answer) → IsVerdict problem height answer found → Checks problem height bytes (checked_of found)
