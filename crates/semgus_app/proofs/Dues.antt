-- What is due says, and that it is one status.
use Rattle.std.proofs.Common.{◌≡◌, ◌⊎◌, ℕ, List, Some, None, Result, Ok, Err, refl, sym, ap, ◌∙◌, subst, inl, inr}
use Rattle.std.specs.Option.{ForSome}
use Rattle.problem_core.specs.Problems.{Parts, IsAnswer}
use Rattle.problem_core.specs.Texts.{problem_text}
use Rattle.problem_core.proofs.Answers.{one_answer}
use Rattle.semgus_app.specs.declared.status.Status.{Status}
use Rattle.semgus_app.specs.declared.status.Status.TheVariants as status
use Rattle.semgus_app.specs.declared.status.Which.TheVariants as which
use Rattle.syntax_core.specs.declared.fault.Fault.{Fault}
use Rattle.solution_core.specs.Answers.{IsAnswerText}
use Rattle.checking_core.specs.declared.check.Checked.{Checked}
use Rattle.checking_core.specs.declared.check.Checked.TheVariants as checked
use Rattle.checking_core.specs.Checks.{Checks}
use Rattle.semgus_app.specs.Dues.{IsDue, refused, found, no_term, shown, answer_refused, invalid, valid}
use Rattle.semgus_app.specs.Files.{Inputs}
use Rattle.semgus_app.specs.Lines.{none_line, valid_line, line_of}
use Rattle.elab_core.specs.Judging.{Judges}
use Rattle.elab_core.proofs.Judgements.{judged_once}
use Rattle.semgus_app.specs.Statuses.{IsJudged}
use Rattle.semgus_app.specs.Tasks.{Task, solve, show, check, problem_file, second_file}
use Rattle.checking_core.proofs.Checking.{checked_once}

-- a problem with an answer text has an answer
answer_is_none : (p : Parts) (height size : ℕ) (text : List ℕ) → IsAnswerText p height size text → IsAnswer p height size None → ⊥
answer_is_none p height size text a none = let same : Some a.term ≡ None = one_answer p height size (Some a.term) None a.first none in cc

-- the status of what is found of an answer file
status_of : Checked → Status
status_of checked.Valid = status.Valid
status_of (checked.Invalid flaw) = status.Invalid flaw
status_of (checked.Refused fault) = status.Refused which.Answer fault

-- the status of a task by what its problem file is judged to be
Case : List ℕ → Task → Result Parts Fault → Status → Type 0
Case second task (Err fault) s = s ≡ status.Refused which.Problem fault
Case second (show file) (Ok p) s = s ≡ status.Shown
Case second (check file answer height) (Ok p) s = (found : Checked) × Checks p height second found × (s ≡ status_of found)
Case second (solve file height size) (Ok p) s = ((text : List ℕ) × IsAnswerText p height size text × (s ≡ status.Found)) ⊎ (IsAnswer p height size None × (s ≡ status.NoTerm))

case_of : (inputs : Inputs) (task : Task) (s : Status) (x : List ℕ) → IsDue inputs task s x → (judged : Result Parts Fault) × Judges inputs.problem judged × Case inputs.second task judged s
unfolding Case status_of
case_of inputs task s x (refused t file fault named judged) = (Err fault, judged, refl)
case_of inputs task s x (found file height size p text judged is) = (Ok p, judged, inl (text, is, refl))
case_of inputs task s x (no_term file height size p judged none) = (Ok p, judged, inr (none, refl))
case_of inputs task s x (shown file p judged) = (Ok p, judged, refl)
case_of inputs task s x (answer_refused file answer height p fault judged is) = (Ok p, judged, (checked.Refused fault, is, refl))
case_of inputs task s x (invalid file answer height p flaw judged is) = (Ok p, judged, (checked.Invalid flaw, is, refl))
case_of inputs task s x (valid file answer height p judged is) = (Ok p, judged, (checked.Valid, is, refl))

one_case : (second : List ℕ) (task : Task) (judged : Result Parts Fault) (s s' : Status) → Case second task judged s → Case second task judged s' → s ≡ s'
unfolding Case
one_case second task (Err fault) s s' a b = a ∙ sym b
one_case second (show file) (Ok p) s s' a b = a ∙ sym b
one_case second (check file answer height) (Ok p) s s' a b = a.2 ∙ ap status_of (checked_once p height second a.0 b.0 a.1 b.1) ∙ sym b.2
one_case second (solve file height size) (Ok p) s s' a b = elim a [
  | inl x ↦ elim b [ inl y ↦ x.2 ∙ sym y.2 | inr y ↦ absurd (answer_is_none p height size x.0 x.1 y.0) ]
  | inr x ↦ elim b [ inl y ↦ absurd (answer_is_none p height size y.0 y.1 x.0) | inr y ↦ x.1 ∙ sym y.1 ]
]

-- one status is due
pub one_status : (inputs : Inputs) (task : Task) (s s' : Status) (x x' : List ℕ) → IsDue inputs task s x → IsDue inputs task s' x' → s ≡ s'
one_status inputs task s s' x x' d e =
    let a = case_of inputs task s x d in
    let b = case_of inputs task s' x' e in
    let same = judged_once a.1 b.1 in
    one_case inputs.second task b.0 s s' (subst (λ judged. Case inputs.second task judged s) same a.2) b.2

-- the status that is due is none of those that calls or words bring
pub due_judged : (inputs : Inputs) (task : Task) (s : Status) (x : List ℕ) → IsDue inputs task s x → IsJudged s
due_judged inputs task s x (refused t file fault named judged) = record { no_bad_words = λ e. cc; no_open_fault = λ e. cc; no_read_fault = λ e. cc; no_write_fault = λ e. cc; no_want_of_memory = λ e. cc }
due_judged inputs task s x (found file height size p text judged is) = record { no_bad_words = λ e. cc; no_open_fault = λ e. cc; no_read_fault = λ e. cc; no_write_fault = λ e. cc; no_want_of_memory = λ e. cc }
due_judged inputs task s x (no_term file height size p judged none) = record { no_bad_words = λ e. cc; no_open_fault = λ e. cc; no_read_fault = λ e. cc; no_write_fault = λ e. cc; no_want_of_memory = λ e. cc }
due_judged inputs task s x (shown file p judged) = record { no_bad_words = λ e. cc; no_open_fault = λ e. cc; no_read_fault = λ e. cc; no_write_fault = λ e. cc; no_want_of_memory = λ e. cc }
due_judged inputs task s x (answer_refused file answer height p fault judged is) = record { no_bad_words = λ e. cc; no_open_fault = λ e. cc; no_read_fault = λ e. cc; no_write_fault = λ e. cc; no_want_of_memory = λ e. cc }
due_judged inputs task s x (invalid file answer height p flaw judged is) = record { no_bad_words = λ e. cc; no_open_fault = λ e. cc; no_read_fault = λ e. cc; no_write_fault = λ e. cc; no_want_of_memory = λ e. cc }
due_judged inputs task s x (valid file answer height p judged is) = record { no_bad_words = λ e. cc; no_open_fault = λ e. cc; no_read_fault = λ e. cc; no_write_fault = λ e. cc; no_want_of_memory = λ e. cc }

-- what is due looks at a file's bytes only where the task has the file, and at the second one's only after an accepted problem
pub due_with : (read told : Inputs) (task : Task) (s : Status) (x : List ℕ) → ForSome (problem_file task) (λ file. read.problem ≡ told.problem)
    → ((p : Parts) → Judges read.problem (Ok p) → ForSome (second_file task) (λ file. read.second ≡ told.second)) → IsDue read task s x → IsDue told task s x
due_with read told task s x same more (refused t file fault named judged) =
    refused t file fault named (subst (λ (b : List ℕ). Judges b (Err fault)) (same file named) judged)
due_with read told task s x same more (found file height size p text judged is) =
    found file height size p text (subst (λ (b : List ℕ). Judges b (Ok p)) (same _ refl) judged) is
due_with read told task s x same more (no_term file height size p judged none) =
    no_term file height size p (subst (λ (b : List ℕ). Judges b (Ok p)) (same _ refl) judged) none
due_with read told task s x same more (shown file p judged) = shown file p (subst (λ (b : List ℕ). Judges b (Ok p)) (same _ refl) judged)
due_with read told task s x same more (answer_refused file answer height p fault judged is) =
    answer_refused file answer height p fault (subst (λ (b : List ℕ). Judges b (Ok p)) (same _ refl) judged) (subst (λ (b : List ℕ). Checks p height b (checked.Refused fault)) (more p judged _ refl) is)
due_with read told task s x same more (invalid file answer height p flaw judged is) =
    invalid file answer height p flaw (subst (λ (b : List ℕ). Judges b (Ok p)) (same _ refl) judged) (subst (λ (b : List ℕ). Checks p height b (checked.Invalid flaw)) (more p judged _ refl) is)
due_with read told task s x same more (valid file answer height p judged is) =
    valid file answer height p (subst (λ (b : List ℕ). Judges b (Ok p)) (same _ refl) judged) (subst (λ (b : List ℕ). Checks p height b checked.Valid) (more p judged _ refl) is)

-- `Found` is due for `solve` alone
pub found_due : (inputs : Inputs) (task : Task) (s : Status) (x : List ℕ) → IsDue inputs task s x
    → (file : List ℕ) (height size : ℕ) → task ≡ solve file height size → s ≡ status.Found → (p : Parts) × Judges inputs.problem (Ok p) × IsAnswerText p height size x
found_due inputs task s x (refused t file fault named judged) f h n e g = absurd cc
found_due inputs task s x (found file height size p text judged is) f h n e g =
    let heights : height ≡ h = cc in
    let sizes : size ≡ n = cc in
    (p, judged, subst (λ (k : ℕ). IsAnswerText p h k text) sizes (subst (λ (k : ℕ). IsAnswerText p k size text) heights is))
found_due inputs task s x (no_term file height size p judged none) f h n e g = absurd cc
found_due inputs task s x (shown file p judged) f h n e g = absurd cc
found_due inputs task s x (answer_refused file answer height p fault judged is) f h n e g = absurd cc
found_due inputs task s x (invalid file answer height p flaw judged is) f h n e g = absurd cc
found_due inputs task s x (valid file answer height p judged is) f h n e g = absurd cc

-- and so is `NoTerm`
pub none_due : (inputs : Inputs) (task : Task) (s : Status) (x : List ℕ) → IsDue inputs task s x
    → (file : List ℕ) (height size : ℕ) → task ≡ solve file height size → s ≡ status.NoTerm → (p : Parts) × Judges inputs.problem (Ok p) × IsAnswer p height size None × (x ≡ none_line)
none_due inputs task s x (refused t file fault named judged) f h n e g = absurd cc
none_due inputs task s x (found file height size p text judged is) f h n e g = absurd cc
none_due inputs task s x (no_term file height size p judged none) f h n e g =
    let heights : height ≡ h = cc in
    let sizes : size ≡ n = cc in
    (p, judged, subst (λ (k : ℕ). IsAnswer p h k None) sizes (subst (λ (k : ℕ). IsAnswer p k size None) heights none), refl)
none_due inputs task s x (shown file p judged) f h n e g = absurd cc
none_due inputs task s x (answer_refused file answer height p fault judged is) f h n e g = absurd cc
none_due inputs task s x (invalid file answer height p flaw judged is) f h n e g = absurd cc
none_due inputs task s x (valid file answer height p judged is) f h n e g = absurd cc

-- `Shown` is due for `show` alone
pub shown_due : (inputs : Inputs) (task : Task) (s : Status) (x : List ℕ) → IsDue inputs task s x
    → (file : List ℕ) → task ≡ show file → s ≡ status.Shown → (p : Parts) × Judges inputs.problem (Ok p) × (x ≡ problem_text p)
shown_due inputs task s x (refused t file fault named judged) f e g = absurd cc
shown_due inputs task s x (found file height size p text judged is) f e g = absurd cc
shown_due inputs task s x (no_term file height size p judged none) f e g = absurd cc
shown_due inputs task s x (shown file p judged) f e g = (p, judged, refl)
shown_due inputs task s x (answer_refused file answer height p fault judged is) f e g = absurd cc
shown_due inputs task s x (invalid file answer height p flaw judged is) f e g = absurd cc
shown_due inputs task s x (valid file answer height p judged is) f e g = absurd cc

-- `Valid` is due for `check` alone
pub valid_due : (inputs : Inputs) (task : Task) (s : Status) (x : List ℕ) → IsDue inputs task s x
    → (file answer : List ℕ) (height : ℕ) → task ≡ check file answer height → s ≡ status.Valid → (p : Parts) × Judges inputs.problem (Ok p) × Checks p height inputs.second checked.Valid × (x ≡ valid_line)
valid_due inputs task s x (refused t file fault named judged) f a h e g = absurd cc
valid_due inputs task s x (found file height size p text judged is) f a h e g = absurd cc
valid_due inputs task s x (no_term file height size p judged none) f a h e g = absurd cc
valid_due inputs task s x (shown file p judged) f a h e g = absurd cc
valid_due inputs task s x (answer_refused file answer height p fault judged is) f a h e g = absurd cc
valid_due inputs task s x (invalid file answer height p flaw judged is) f a h e g = absurd cc
valid_due inputs task s x (valid file answer height p judged is) f a h e g =
    let heights : height ≡ h = cc in
    (p, judged, subst (λ (k : ℕ). Checks p k inputs.second checked.Valid) heights is, refl)

pub some_same : (x y : List ℕ) → Some x ≡ Some y → x ≡ y
some_same x y e = cc

pub none_some : (x : List ℕ) → None ≡ Some x → ⊥
none_some x e = cc

-- the text that is due is the line of the status, where it has one
pub due_line : (inputs : Inputs) (task : Task) (s : Status) (x : List ℕ) → IsDue inputs task s x → (line : List ℕ) → line_of s ≡ Some line → x ≡ line
due_line inputs task s x (refused t file fault named judged) line e = some_same _ line e
due_line inputs task s x (found file height size p text judged is) line e = absurd (none_some line e)
due_line inputs task s x (no_term file height size p judged none) line e = some_same _ line e
due_line inputs task s x (shown file p judged) line e = absurd (none_some line e)
due_line inputs task s x (answer_refused file answer height p fault judged is) line e = some_same _ line e
due_line inputs task s x (invalid file answer height p flaw judged is) line e = some_same _ line e
due_line inputs task s x (valid file answer height p judged is) line e = some_same _ line e
