-- What a task comes to, by what was read and what was found of it.
use Rattle.std.proofs.Common.{◌≡◌, ℕ, Bool, List, [], Option, Some, None, Result, Ok, Err, refl, sym, ◌∙◌, subst, arith}
use Rattle.std.specs.Option.{ForSome}
use Rattle.semgus_app.specs.declared.status.Status.{Status}
use Rattle.semgus_app.specs.declared.status.Status.TheVariants as status
use Rattle.semgus_app.specs.declared.status.Which.TheVariants as which
use Rattle.syntax_core.specs.declared.fault.Fault.{Fault}
use Rattle.problem_core.specs.Problems.{Parts}
use Rattle.elab_core.specs.Judging.{Judges}
use Rattle.elab_core.proofs.Judgements.{judged_once}
use Rattle.semgus_app.specs.declared.contents.Contents.TheVariants as contents
use Rattle.semgus_app.specs.declared.command.Command.{Command}
use Rattle.semgus_app.specs.declared.command.Command.TheVariants as command
use Rattle.semgus_app.specs.Commands.{task_of}
use Rattle.elab_core.specs.declared.judge.Judge.{Judge}
use Rattle.elab_core.specs.Feeding.{HasRoom, IsJudging}
use Rattle.checking_core.specs.declared.file.AnswerFile.{AnswerFile}
use Rattle.semgus_app.specs.Contents.{AreContents, WasFedFile}
use Rattle.checking_core.specs.Reading.{CanEnd, IsReading}
use Rattle.semgus_app.specs.Dues.{IsDue, refused}
use Rattle.semgus_app.specs.Files.{Held, Inputs, AreRead, IsReached}
use Rattle.semgus_app.specs.Lines.{cannot_open_line, read_fault_line, refusal_line}
use Rattle.semgus_app.specs.Outputs.{IsOutput, due, cannot_open, read_fault}
use Rattle.semgus_app.specs.Tasks.{Task, NamedFile, problem_file, second_file}

-- a due status and text under other names
pub due_at : (inputs : Inputs) (task : Task) (s s' : Status) (x x' : List ℕ) → s ≡ s' → x ≡ x' → IsDue inputs task s' x' → IsDue inputs task s x
due_at inputs task s s' x x' e f d =
    subst (λ (state : Status). IsDue inputs task state x) (sym e) (subst (λ (text : List ℕ). IsDue inputs task s' text) (sym f) d)

pub has_problem_file : (c : Command) → (file : NamedFile) × (problem_file (task_of c) ≡ Some file)
has_problem_file (command.Solve file height size) = (_, refl)
has_problem_file (command.Show file) = (_, refl)
has_problem_file (command.Check file answer height) = (_, refl)

-- what was read of the only file that there may be, under other names
pub file_read : (held held' : Held) (o : Option NamedFile) (file : NamedFile) (bytes bytes' : List ℕ) → o ≡ Some file → held' ≡ held → bytes' ≡ bytes
    → AreRead held file bytes → ForSome o (λ f. AreRead held' f bytes')
file_read held held' o file bytes bytes' named eh eb read f e =
    let both : Some file ≡ Some f = sym named ∙ e in
    let same : file ≡ f = cc in
    subst (λ (h : Held). AreRead h f bytes') (sym eh) (subst (λ (b : List ℕ). AreRead held f b) (sym eb) (subst (λ (n : NamedFile). AreRead held n bytes) same read))

-- a judge that was fed a problem file can be asked
pub asked : (held : Held) (name : List ℕ) (judge : Judge) → WasFedFile IsJudging held (record { name = name; limit = 1048576 }) judge → HasRoom judge 0
asked held name judge fed = let short = fed.short in record { bytes = fed.bytes; judging = fed.all; room = omega (arith, short) }

-- an answer file that was fed can end
pub can_end : (held : Held) (name : List ℕ) (answer : AnswerFile) → WasFedFile IsReading held (record { name = name; limit = 8388608 }) answer → CanEnd answer
can_end held name answer fed = let short = fed.short in (fed.bytes, fed.all, omega (arith, short))

no_problem : (problem : Parts) (fault : Fault) → ◌≡◌ {A = Result Parts Fault} (Ok problem) (Err fault) → ⊥
no_problem problem fault e = cc

module _ (held : Held) (steady : Bool) (o o' r r' : ℕ) (task : Task) (s : Status) (x : List ℕ) where
  abbrev Output : Type 0
  Output = IsOutput held steady o o' r r' task s x

  output_at : (s' : Status) (x' : List ℕ) → s ≡ s' → x ≡ x' → IsOutput held steady o o' r r' task s' x' → Output
  output_at s' x' e f d =
      subst (λ (state : Status). IsOutput held steady o o' r r' task state x) (sym e) (subst (λ (text : List ℕ). IsOutput held steady o o' r r' task s' text) (sym f) d)

  -- after calls that changed no count
  pub output_from : (held1 : Held) (steady1 : Bool) (o1 r1 : ℕ) → held1 ≡ held → steady1 ≡ steady → o1 ≡ o → r1 ≡ r
      → IsOutput held1 steady1 o1 o' r1 r' task s x → Output
  output_from held1 steady1 o1 r1 eh es eo er out =
      let a = subst (λ (h : Held). IsOutput h steady1 o1 o' r1 r' task s x) eh out in
      let b = subst (λ (t : Bool). IsOutput held t o1 o' r1 r' task s x) es a in
      let c = subst (λ (n : ℕ). IsOutput held steady n o' r1 r' task s x) eo b in
      subst (λ (n : ℕ). IsOutput held steady o o' n r' task s x) er c

  -- a file could not be begun
  pub closed_output : {T : Type 0} (was_fed : T → List ℕ → Type 0) (file : NamedFile) → IsReached held task file
      → AreContents was_fed held steady file o o' r r' contents.Closed → s ≡ status.CannotOpen → x ≡ cannot_open_line file.name → Output
  closed_output was_fed file reached c e f = output_at status.CannotOpen (cannot_open_line file.name) e f (cannot_open file c.0 c.1 reached c.2)

  -- a read failed
  pub failed_output : {T : Type 0} (was_fed : T → List ℕ → Type 0) (file : NamedFile) → IsReached held task file
      → AreContents was_fed held steady file o o' r r' contents.Failed → s ≡ status.ReadFault → x ≡ read_fault_line → Output
  failed_output was_fed file reached c e f = output_at status.ReadFault read_fault_line e f (read_fault file c.0 c.1 reached c.2 c.3)

  -- the problem was refused
  pub refused_output : (first : List ℕ) (file : NamedFile) (fault : Fault) → problem_file task ≡ Some file → Judges first (Err fault)
      → ForSome (problem_file task) (λ f. AreRead held f first) → o' ≡ o → r' ≡ r
      → s ≡ status.Refused which.Problem fault → x ≡ refusal_line which.Problem fault → Output
  refused_output first file fault named judged read eo er e f = due (record { problem = first; second = [] }) s x eo er
      (record { problem = read; second = λ p j. absurd (no_problem p fault (judged_once j judged)) })
      (due_at (record { problem = first; second = [] }) task s (status.Refused which.Problem fault) x (refusal_line which.Problem fault) e f (refused task file fault named judged))

  -- the problem was accepted, and its task has no second file
  pub single_output : (first : List ℕ) → second_file task ≡ None → ForSome (problem_file task) (λ f. AreRead held f first) → o' ≡ o → r' ≡ r
      → IsDue (record { problem = first; second = [] }) task s x → Output
  single_output first none read eo er d = due (record { problem = first; second = [] }) s x eo er
      (record { problem = read; second = λ p j file e. absurd (let both : Some file ≡ None = sym e ∙ none in cc) }) d

  -- the problem was accepted, and the second file was read
  pub double_output : (first : List ℕ) (answer : AnswerFile) (file : NamedFile) → second_file task ≡ Some file → ForSome (problem_file task) (λ f. AreRead held f first)
      → AreContents IsReading held steady file o o' r r' (contents.Read answer)
      → ((bytes : List ℕ) → IsReading answer bytes → IsDue (record { problem = first; second = bytes }) task s x) → Output
  double_output first answer file named read c is_due = let fed = c.2 in due (record { problem = first; second = fed.bytes }) s x c.0 c.1
      (record { problem = read; second = λ p j. file_read held held (second_file task) file fed.bytes fed.bytes named refl refl fed.read })
      (is_due fed.bytes fed.all)
