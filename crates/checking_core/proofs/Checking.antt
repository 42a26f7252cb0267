-- What is found of an answer file is one thing, and the term of a valid answer solves the problem.
use Rattle.std.proofs.Common.{◌≡◌, ◌<◌, ◌≤◌, ℕ, List, Result, Ok, Err, length, refl, sym, ap, ap₂, ◌∙◌, subst, arith}
use Rattle.sexpr_core.specs.Prefixes.{IsFault}
use Rattle.sexpr_core.proofs.Finishing.{fault_no_spelling}
use Rattle.sexpr_core.proofs.Once.{spells_once}
use Rattle.sexpr_core.proofs.PrefixesOnce.{fault_once}
use Rattle.syntax_core.specs.Shapes.{refusal}
use Rattle.grammar_core.specs.Grammars.{Lang, start}
use Rattle.problem_core.specs.Problems.{Parts, Solves}
use Rattle.syntax_core.specs.declared.fault.Fault.{Fault}
use Rattle.sexpr_core.specs.declared.form.Sexpr.{Sexpr}
use Rattle.sexpr_core.specs.Spelling.{Spell}
use Rattle.answer_core.specs.declared.answer.Answer.{Answer}
use Rattle.answer_core.specs.declared.answer.AnswerError.{AnswerError}
use Rattle.answer_core.specs.declared.answer.AnswerError.TheVariants as error
use Rattle.answer_core.specs.declared.answer.AnswerFault.{AnswerFault}
use Rattle.answer_core.specs.Answers.{tree_answer}
use Rattle.answer_core.specs.Outcomes.{Gives}
use Rattle.answer_core.specs.declared.answer.Verdict.{Verdict}
use Rattle.answer_core.specs.declared.answer.Verdict.TheVariants as verdict
use Rattle.answer_core.specs.Readings.{TreeAnswer, nothing, reading}
use Rattle.answer_core.specs.Verdicts.{IsVerdict, in_language, steps_valid, constraints_met}
use Rattle.answer_core.proofs.Judging.{solves}
use Rattle.answer_core.proofs.OneVerdict.{one_verdict}
use Rattle.checking_core.specs.declared.check.Checked.{Checked}
use Rattle.checking_core.specs.declared.check.Checked.TheVariants as checked
use Rattle.checking_core.specs.declared.check.Flaw.TheVariants as flaw
use Rattle.checking_core.specs.Checks.{Checks, Reads, checked_of, too_long, misspelled, misread, judged}

-- bytes read as one thing
reads_once : (p : Parts) (bytes : List ℕ) (r s : Result TreeAnswer AnswerFault) → Reads p bytes r → Reads p bytes s → r ≡ s
reads_once p bytes r s a b =
    sym a.read ∙ ap (λ forms. reading p.signature (length p.constraints) (length bytes) forms nothing) (spells_once bytes a.forms b.forms a.spelled b.spelled) ∙ b.read

same_answer : (a b : TreeAnswer) → ◌≡◌ {A = Result TreeAnswer AnswerFault} (Ok a) (Ok b) → a ≡ b
same_answer a b e = cc

same_bad : (a b : AnswerFault) → ◌≡◌ {A = Result TreeAnswer AnswerFault} (Err a) (Err b) → a ≡ b
same_bad a b e = cc

no_answer : (a : AnswerFault) (b : TreeAnswer) → ◌≡◌ {A = Result TreeAnswer AnswerFault} (Err a) (Ok b) → ⊥
no_answer a b e = cc

-- bytes that are read are no longer than the limit, and have no lexical fault
long_unread : (p : Parts) (bytes : List ℕ) (r : Result TreeAnswer AnswerFault) → 8388608 < length bytes → Reads p bytes r → ⊥
long_unread p bytes r long read = let short = read.short in omega (arith, long, short)

fault_unread : (p : Parts) (bytes : List ℕ) (r : Result TreeAnswer AnswerFault) (place reason : ℕ) → IsFault bytes place reason → Reads p bytes r → ⊥
fault_unread p bytes r place reason fault read = fault_no_spelling bytes fault read.forms read.spelled

refused_once : (bytes : List ℕ) (place reason other_place other_reason : ℕ) → IsFault bytes place reason → IsFault bytes other_place other_reason →
    checked.Refused (refusal place reason) ≡ checked.Refused (refusal other_place other_reason)
refused_once bytes place reason other_place other_reason fault other =
    let same = fault_once bytes fault other in
    ap₂ (λ p r. checked.Refused (refusal p r)) same.0 same.1

judged_once : (p : Parts) (height : ℕ) (bytes : List ℕ) (a b : TreeAnswer) (v w : Verdict) → Reads p bytes (Ok a) → Reads p bytes (Ok b) →
    IsVerdict p height a v → IsVerdict p height b w → checked_of v ≡ checked_of w
judged_once p height bytes a b v w r s first second =
    let same : a ≡ b = same_answer a b (reads_once p bytes (Ok a) (Ok b) r s) in
    ap checked_of (one_verdict p height b v w (subst (λ (t : TreeAnswer). IsVerdict p height t v) same first) second)

pub checked_once : (p : Parts) (height : ℕ) (bytes : List ℕ) (c d : Checked) → Checks p height bytes c → Checks p height bytes d → c ≡ d
checked_once p height bytes c d (too_long long) (too_long also) = refl
checked_once p height bytes c d (too_long long) (misspelled place reason short fault) = absurd (omega (arith, long, short))
checked_once p height bytes c d (too_long long) (misread bad read) = absurd (long_unread p bytes (Err bad) long read)
checked_once p height bytes c d (too_long long) (judged a v read is) = absurd (long_unread p bytes (Ok a) long read)
checked_once p height bytes c d (misspelled place reason short fault) (too_long long) = absurd (omega (arith, long, short))
checked_once p height bytes c d (misspelled place reason short fault) (misspelled q s also other) = refused_once bytes place reason q s fault other
checked_once p height bytes c d (misspelled place reason short fault) (misread bad read) = absurd (fault_unread p bytes (Err bad) place reason fault read)
checked_once p height bytes c d (misspelled place reason short fault) (judged a v read is) = absurd (fault_unread p bytes (Ok a) place reason fault read)
checked_once p height bytes c d (misread bad read) (too_long long) = absurd (long_unread p bytes (Err bad) long read)
checked_once p height bytes c d (misread bad read) (misspelled place reason short fault) = absurd (fault_unread p bytes (Err bad) place reason fault read)
checked_once p height bytes c d (misread bad read) (misread worse also) =
    ap (λ fault. checked.Invalid (flaw.Form fault)) (same_bad bad worse (reads_once p bytes (Err bad) (Err worse) read also))
checked_once p height bytes c d (misread bad read) (judged a v also is) = absurd (no_answer bad a (reads_once p bytes (Err bad) (Ok a) read also))
checked_once p height bytes c d (judged a v read is) (too_long long) = absurd (long_unread p bytes (Ok a) long read)
checked_once p height bytes c d (judged a v read is) (misspelled place reason short fault) = absurd (fault_unread p bytes (Ok a) place reason fault read)
checked_once p height bytes c d (judged a v read is) (misread bad also) = absurd (no_answer bad a (reads_once p bytes (Err bad) (Ok a) also read))
checked_once p height bytes c d (judged a v read is) (judged b w also are) = judged_once p height bytes a b v w read also is are

-- one verdict alone says that the file is valid
only_valid : (v : Verdict) → checked_of v ≡ checked.Valid → v ≡ verdict.Valid
only_valid verdict.Valid e = refl
only_valid verdict.Nodes e = absurd cc
only_valid verdict.Size e = absurd cc
only_valid verdict.Grammar e = absurd cc
only_valid (verdict.Step bad) e = absurd cc
only_valid (verdict.Constraint number) e = absurd cc

-- the bytes are an answer whose term is in the language and solves the problem
pub record HoldsSolution (p : Parts) (height : ℕ) (bytes : List ℕ) : Type 0 where
  pub answer : TreeAnswer
  pub read : Reads p bytes (Ok answer)
  pub member : Lang p.grammar start answer.term
  pub solved : Solves p height answer.term

solution : (p : Parts) (height : ℕ) (bytes : List ℕ) (answer : TreeAnswer) (v : Verdict) → Reads p bytes (Ok answer) → IsVerdict p height answer v → v ≡ verdict.Valid → HoldsSolution p height bytes
solution p height bytes answer v read is e =
    let all : IsVerdict p height answer verdict.Valid = subst (λ (w : Verdict). IsVerdict p height answer w) e is in
    record { answer = answer; read = read; member = all in_language; solved = solves p height answer (all steps_valid) (all constraints_met) }

pub valid_solves : (p : Parts) (height : ℕ) (bytes : List ℕ) (c : Checked) → Checks p height bytes c → c ≡ checked.Valid → HoldsSolution p height bytes
valid_solves p height bytes c (too_long long) e = absurd cc
valid_solves p height bytes c (misspelled place reason short fault) e = absurd cc
valid_solves p height bytes c (misread bad read) e = absurd cc
valid_solves p height bytes c (judged answer v read is) e = solution p height bytes answer v read is (only_valid v e)

-- What is found, by what calls answer.

pub long_checked : (p : Parts) (height : ℕ) (bytes : List ℕ) (fault : Fault) → 8388608 < length bytes → fault ≡ record { place = 8388608; reason = 50; limit = 2 } → Checks p height bytes (checked.Refused fault)
long_checked p height bytes fault long e = subst (λ (f : Fault). Checks p height bytes (checked.Refused f)) (sym e) (too_long long)

pub fault_checked : (p : Parts) (height : ℕ) (bytes : List ℕ) (place reason : ℕ) (fault : Fault) → length bytes ≤ 8388608 → IsFault bytes place reason → fault ≡ refusal place reason → Checks p height bytes (checked.Refused fault)
fault_checked p height bytes place reason fault short is e = subst (λ (f : Fault). Checks p height bytes (checked.Refused f)) (sym e) (misspelled place reason short is)

reads_as : (p : Parts) (bytes : List ℕ) (end : ℕ) (forms : List Sexpr) (result : Result TreeAnswer AnswerFault) → reading p.signature (length p.constraints) end forms nothing ≡ result →
    length bytes ≤ 8388608 → end ≡ length bytes → Spell bytes forms → Reads p bytes result
reads_as p bytes end forms result read short e spells = record {
  short = short;
  forms = forms;
  spelled = spells;
  read = subst (λ (n : ℕ). reading p.signature (length p.constraints) n forms nothing ≡ result) e read;
}

pub form_checked : (p : Parts) (height end : ℕ) (forms : List Sexpr) (found : AnswerError) (fault : AnswerFault) →
    Gives {X = Answer} (reading p.signature (length p.constraints) end forms nothing) (Err found) tree_answer → found ≡ error.Fault fault →
    (bytes : List ℕ) → length bytes ≤ 8388608 → end ≡ length bytes → Spell bytes forms → Checks p height bytes (checked.Invalid (flaw.Form fault))
form_checked p height end forms found fault gives at bytes short e spells =
    let due = reading p.signature (length p.constraints) end forms nothing in
    let read : due ≡ Err fault = subst (λ (x : AnswerError). Gives {X = Answer} due (Err x) tree_answer) at gives in
    misread fault (reads_as p bytes end forms (Err fault) read short e spells)

pub answer_checked : (p : Parts) (height end : ℕ) (forms : List Sexpr) (answer : Answer) (v : Verdict) (c : Checked) →
    Gives {X = Answer} (reading p.signature (length p.constraints) end forms nothing) (Ok answer) tree_answer → IsVerdict p height (tree_answer answer) v → c ≡ checked_of v →
    (bytes : List ℕ) → length bytes ≤ 8388608 → end ≡ length bytes → Spell bytes forms → Checks p height bytes c
answer_checked p height end forms answer v c gives is at bytes short e spells =
    subst (λ (x : Checked). Checks p height bytes x) (sym at) (judged (tree_answer answer) v (reads_as p bytes end forms (Ok (tree_answer answer)) gives short e spells) is)
