-- What a run that printed the output of its task says of its status, the counts and the bytes of the files.
use Rattle.std.proofs.Common.{◌≡◌, ◌≢◌, ◌⊎◌, ◌<◌, ◌+◌, ℕ, Bool, List, [], Option, Some, None, Ok, IsTrue, take, refl, sym, ap, ◌∙◌, subst, inl, inr, arith}
use Rattle.std.specs.Option.{ForSome}
use Rattle.semgus_io.specs.Counts.{Rises, Stays}
use Rattle.semgus_io.specs.Writes.{Grows}
use Rattle.semgus_app.specs.declared.status.Status.{Status}
use Rattle.semgus_app.specs.declared.status.Status.TheVariants as status
use Rattle.semgus_app.specs.Dues.{IsDue}
use Rattle.grammar_core.specs.Grammars.{Lang, start}
use Rattle.problem_core.specs.Problems.{Parts, IsAnswer, Solves}
use Rattle.problem_core.specs.Texts.{problem_text}
use Rattle.answer_core.specs.Readings.{TreeAnswer}
use Rattle.checking_core.specs.declared.check.Checked.TheVariants as checked
use Rattle.solution_core.specs.Answers.{IsAnswerText}
use Rattle.checking_core.specs.Checks.{Reads}
use Rattle.semgus_app.specs.Files.{Held, Inputs, AreRead, AreTold, Tell, WereRead, IsReached, as_problem, as_second}
use Rattle.semgus_app.specs.Lines.{cannot_open_line, read_fault_line, none_line, valid_line, line_of}
use Rattle.elab_core.specs.Judging.{Judges}
use Rattle.semgus_app.specs.Outputs.{IsOutput, IsPrinted, NoneRose, due, cannot_open, read_fault}
use Rattle.semgus_app.specs.Statuses.{IsJudged}
use Rattle.semgus_app.specs.Tasks.{Task, NamedFile, Asks, solve, show, check, problem_file, second_file}
use Rattle.checking_core.proofs.Checking.{valid_solves}
use Rattle.semgus_app.proofs.Dues.{due_judged, due_with, found_due, none_due, shown_due, valid_due, due_line, some_same, none_some}
use Rattle.semgus_app.proofs.Tasks.{one_task}

rose_stays : (old new : ℕ) → Rises old new → Stays old new → ⊥
rose_stays old new r s = omega arith

-- bytes that were read are those that are told
read_told : (held : Held) (file : NamedFile) (read told : List ℕ) → AreRead held file read → AreTold held file told → read ≡ told
read_told held file read told r t =
    let is = r (Some t.whole) t.told in
    let both : Some t.whole ≡ Some is.0 = is.1 in
    let same : t.whole ≡ is.0 = cc in
    is.2 ∙ ap (λ whole. take (file.limit + 1) whole) (sym same) ∙ sym t.cut

-- a file that isn't held isn't read
absent_read : (held : Held) (file : NamedFile) (read : List ℕ) → AreRead held file read → held file.name ≡ Some None → ⊥
absent_read held file read r e = let is = r None e in let both : None ≡ Some is.0 = is.1 in cc

-- a file that is told is held
told_held : (held : Held) (file : NamedFile) (bytes : List ℕ) → AreTold held file bytes → held file.name ≡ Some None → ⊥
told_held held file bytes t e = let both : Some (Some t.whole) ≡ Some None = sym t.told ∙ e in let same : Some t.whole ≡ None = cc in cc

same_file : (o : Option NamedFile) (f g : NamedFile) → o ≡ Some f → o ≡ Some g → f ≡ g
same_file o f g a b = let both : Some f ≡ Some g = sym a ∙ b in cc

-- a task with a second file has a problem file
two_files : (task : Task) (file : NamedFile) → second_file task ≡ Some file → (first : NamedFile) × (problem_file task ≡ Some first)
two_files (solve file height size) named e = (_, refl)
two_files (show file) named e = (_, refl)
two_files (check file answer height) named e = (_, refl)

module _ (held : Held) (steady : Bool) (o o' r r' : ℕ) (task : Task) where
  abbrev Output : Status → List ℕ → Type 0
  Output s x = IsOutput held steady o o' r r' task s x

  -- the status of an output is none of the others
  output_other : (s : Status) (x : List ℕ) → Output s x → (s ≢ status.BadWords) × (s ≢ status.WriteFault) × (s ≢ status.Memory)
  output_other s x (due inputs state text eo er read d) = let j = due_judged inputs task state text d in (j.no_bad_words, j.no_write_fault, j.no_want_of_memory)
  output_other s x (cannot_open file a b c d) = (λ e. cc, λ e. cc, λ e. cc)
  output_other s x (read_fault file a b c d e) = (λ f. cc, λ f. cc, λ f. cc)

  pub record JudgedOutput (s : Status) (x : List ℕ) : Type 0 where
    pub opens : o' ≡ o
    pub reads : r' ≡ r
    pub inputs : Inputs
    pub read : WereRead held task inputs
    pub due : IsDue inputs task s x

  judged_output : (s : Status) (x : List ℕ) → Output s x → IsJudged s → JudgedOutput s x
  judged_output s x (due inputs state text eo er read d) j = record { opens = eo; reads = er; inputs = inputs; read = read; due = d }
  judged_output s x (cannot_open file a b c d) j = absurd (j.no_open_fault refl)
  judged_output s x (read_fault file a b c d e) j = absurd (j.no_read_fault refl)

  pub record ClosedOutput (x : List ℕ) : Type 0 where
    pub opens : Rises o o'
    pub reads : r' ≡ r
    pub file : NamedFile
    pub reached : IsReached held task file
    pub steady_absent : IsTrue steady → held file.name ≡ Some None
    pub line : x ≡ cannot_open_line file.name

  closed_output : (s : Status) (x : List ℕ) → Output s x → s ≡ status.CannotOpen → ClosedOutput x
  closed_output s x (due inputs state text eo er read d) e = absurd ((due_judged inputs task state text d).no_open_fault e)
  closed_output s x (cannot_open file a b c d) e = record { opens = a; reads = b; file = file; reached = c; steady_absent = d; line = refl }
  closed_output s x (read_fault file a b c d e) f = absurd cc

  failed_output : (s : Status) (x : List ℕ) → Output s x → s ≡ status.ReadFault → Rises r r' × (o' ≡ o) × (¬ IsTrue steady) × (x ≡ read_fault_line)
  failed_output s x (due inputs state text eo er read d) e = absurd ((due_judged inputs task state text d).no_read_fault e)
  failed_output s x (cannot_open file a b c d) e = absurd cc
  failed_output s x (read_fault file a b c d e) f = (a, b, e, refl)

  output_line : (s : Status) (x : List ℕ) → Output s x → (line : List ℕ) → line_of s ≡ Some line → x ≡ line
  output_line s x (due inputs state text eo er read d) line e = due_line inputs task state text d line e
  output_line s x (cannot_open file a b c d) line e = absurd (none_some line e)
  output_line s x (read_fault file a b c d e) line f = some_same _ line f

  -- the counts decide
  opens_output : (s : Status) (x : List ℕ) → Output s x → o < o' → s ≡ status.CannotOpen
  opens_output s x (due inputs state text eo er read d) l = absurd (omega (arith, eo, l))
  opens_output s x (cannot_open file a b c d) l = refl
  opens_output s x (read_fault file a b c d e) l = absurd (omega (arith, b, l))

  reads_output : (s : Status) (x : List ℕ) → Output s x → r < r' → s ≡ status.ReadFault
  reads_output s x (due inputs state text eo er read d) l = absurd (omega (arith, er, l))
  reads_output s x (cannot_open file a b c d) l = absurd (omega (arith, b, l))
  reads_output s x (read_fault file a b c d e) l = refl

  -- the problem file isn't held
  absent_reached : (file other : NamedFile) → problem_file task ≡ Some file → held file.name ≡ Some None → IsReached held task other → held other.name ≢ Some None → ⊥
  absent_reached file other named absent (as_problem e) there = there (subst (λ (f : NamedFile). held f.name ≡ Some None) (same_file (problem_file task) file other named e) absent)
  absent_reached file other named absent (as_second first e accepted) there = absent_read held file first (accepted.read file named) absent

  absent_output : (s : Status) (x : List ℕ) → Output s x → (file : NamedFile) → problem_file task ≡ Some file → held file.name ≡ Some None → s ≡ status.CannotOpen
  absent_output s x (due inputs state text eo er read d) file named absent = absurd (absent_read held file inputs.problem (read.problem file named) absent)
  absent_output s x (cannot_open f a b c d) file named absent = refl
  absent_output s x (read_fault f a b c d e) file named absent = absurd (absent_reached file f named absent c d)

  -- the problem was accepted, and the second file isn't held
  second_absent_output : (s : Status) (x : List ℕ) → Output s x → (file next : NamedFile) (bytes : List ℕ) (p : Parts) → problem_file task ≡ Some file → AreTold held file bytes → Judges bytes (Ok p)
      → second_file task ≡ Some next → held next.name ≡ Some None → Stays r r' → s ≡ status.CannotOpen
  second_absent_output s x (due inputs state text eo er read d) file next bytes p named told judged second absent stays =
      let same : inputs.problem ≡ bytes = read_told held file inputs.problem bytes (read.problem file named) told in
      let accepted : Judges inputs.problem (Ok p) = subst (λ (b : List ℕ). Judges b (Ok p)) (sym same) judged in
      absurd (absent_read held next inputs.second (read.second p accepted next second) absent)
  second_absent_output s x (cannot_open f a b c d) file next bytes p named told judged second absent stays = refl
  second_absent_output s x (read_fault f a b c d e) file next bytes p named told judged second absent stays = absurd (rose_stays r r' a stays)

  -- what was read is told
  judged_told : (s : Status) (x : List ℕ) (inputs : Inputs) → JudgedOutput s x → Tell held task inputs → IsDue inputs task s x
  judged_told s x inputs j tell =
      let same : (file : NamedFile) → problem_file task ≡ Some file → j.inputs.problem ≡ inputs.problem =
      λ file named. read_told held file j.inputs.problem inputs.problem (j.read.problem file named) (tell.problem file named) in
      due_with j.inputs inputs task s x same
      (λ p judged next e. (
      let one = two_files task next e in
      let accepted : Judges inputs.problem (Ok p) = subst (λ (b : List ℕ). Judges b (Ok p)) (same one.0 one.1) judged in
      read_told held next j.inputs.second inputs.second (j.read.second p judged next e) (tell.second p accepted next e)))
      j.due

  -- no file that is reached is absent, where the files tell those of the task
  told_reached : (inputs : Inputs) (file : NamedFile) → Tell held task inputs → IsReached held task file → held file.name ≡ Some None → ⊥
  told_reached inputs file tell (as_problem e) absent = told_held held file inputs.problem (tell.problem file e) absent
  told_reached inputs file tell (as_second bytes e accepted) absent =
      let one = two_files task file e in
      let same : bytes ≡ inputs.problem = read_told held one.0 bytes inputs.problem (accepted.read one.0 one.1) (tell.problem one.0 one.1) in
      told_held held file inputs.second (tell.second accepted.problem (subst (λ (b : List ℕ). Judges b (Ok accepted.problem)) same accepted.judged) file e) absent

-- the line of the status is printed, where it has one
pub printed_line : (result : Status) (f f' : ℕ) (w w' : Option (List ℕ)) (state : Status) (text : List ℕ) → IsPrinted result f f' w w' state text
    → ((line : List ℕ) → line_of state ≡ Some line → text ≡ line) → ForSome (line_of result) (λ line. Grows w w' line)
printed_line result f f' w w' state text printed is line e = elim printed [
  | inl a ↦ subst (λ (t : List ℕ). Grows w w' t) (is line (sym (ap line_of a.0) ∙ e)) a.2
  | inr b ↦ absurd (none_some line (sym (ap line_of b.0) ∙ e))
]

-- a run over words that ask for a task, which printed its output
pub record Ran (words : List (List ℕ)) (held : Held) (steady : Bool) (o o' r r' : ℕ) (result : Status) (f f' : ℕ) (w w' : Option (List ℕ)) : Type 0 where
  pub task : Task
  pub asks : Asks words task
  pub state : Status
  pub text : List ℕ
  pub output : IsOutput held steady o o' r r' task state text
  pub printed : IsPrinted result f f' w w' state text

module _ (words : List (List ℕ)) (held : Held) (steady : Bool) (o o' r r' : ℕ) (result : Status) (f f' : ℕ) (w w' : Option (List ℕ))
    (ran : Ran words held steady o o' r r' result f f' w w') where
  output_of : (task : Task) → Asks words task → IsOutput held steady o o' r r' task ran.state ran.text
  output_of task asks = subst (λ (t : Task). IsOutput held steady o o' r r' t ran.state ran.text) (one_task words ran.task task ran.asks asks) ran.output

  pub output_clause : (task : Task) → Asks words task → (result ≡ status.Memory) ⊎ ((state : Status) × (text : List ℕ) × IsOutput held steady o o' r r' task state text × IsPrinted result f f' w w' state text)
  output_clause task asks = inr (ran.state, ran.text, output_of task asks, ran.printed)

  others : (ran.state ≢ status.BadWords) × (ran.state ≢ status.WriteFault) × (ran.state ≢ status.Memory)
  others = output_other held steady o o' r r' ran.task ran.state ran.text ran.output

  -- what was printed whole
  whole : result ≢ status.WriteFault → (ran.state ≡ result) × (f' ≡ f) × Grows w w' ran.text
  whole wrote = elim ran.printed [ inl a ↦ (sym a.0, a.1, a.2) | inr b ↦ absurd (wrote b.0) ]

  pub bad_words_clause : result ≡ status.BadWords → ⊥
  bad_words_clause e = let a = whole (λ g. cc) in others.0 (a.0 ∙ e)

  pub due_clause : IsJudged result → NoneRose o o' r r' f f' × ((task : Task) (inputs : Inputs) → Asks words task → Tell held task inputs → (text : List ℕ) × IsDue inputs task result text × Grows w w' text)
  due_clause j =
      let a = whole j.no_write_fault in
      let at : (task : Task) → Asks words task → JudgedOutput held steady o o' r r' task result ran.text =
      λ task asks. judged_output held steady o o' r r' task result ran.text (subst (λ (s : Status). IsOutput held steady o o' r r' task s ran.text) a.0 (output_of task asks)) j in
      let counts = at ran.task ran.asks in (
        (counts.opens, counts.reads, a.1),
        λ task inputs asks tell.
            (ran.text, judged_told held steady o o' r r' task result ran.text inputs (at task asks) tell, a.2),
      )

  pub cannot_open_clause : result ≡ status.CannotOpen → Rises o o' × (r' ≡ r) × (f' ≡ f)
      × ((task : Task) → Asks words task → (file : NamedFile) × IsReached held task file × (IsTrue steady → held file.name ≡ Some None) × Grows w w' (cannot_open_line file.name))
  cannot_open_clause e =
      let a = whole (λ g. cc) in
      let at : (task : Task) → Asks words task → ClosedOutput held steady o o' r r' task ran.text =
      λ task asks. closed_output held steady o o' r r' task ran.state ran.text (output_of task asks) (a.0 ∙ e) in
      let counts = at ran.task ran.asks in (
        counts.opens,
        counts.reads,
        a.1,
        λ task asks. (let c = at task asks in (c.file, c.reached, c.steady_absent, subst (λ (text : List ℕ). Grows w w' text) c.line a.2)),
      )

  pub read_fault_clause : result ≡ status.ReadFault → Rises r r' × (o' ≡ o) × (f' ≡ f) × (¬ IsTrue steady) × Grows w w' read_fault_line
  read_fault_clause e =
      let a = whole (λ g. cc) in
      let c = failed_output held steady o o' r r' ran.task ran.state ran.text ran.output (a.0 ∙ e) in
      (c.0, c.1, a.1, c.2, subst (λ (text : List ℕ). Grows w w' text) c.3 a.2)

  pub write_fault_clause : result ≡ status.WriteFault → Rises f f'
  write_fault_clause e = elim ran.printed [ inl a ↦ absurd (others.1 (sym a.0 ∙ e)) | inr b ↦ b.1 ]

  pub writes_clause : f < f' → result ≡ status.WriteFault
  writes_clause l = elim ran.printed [ inl a ↦ absurd (let same = a.1 in omega (arith, same, l)) | inr b ↦ b.0 ]

  -- the status that the output has, unless a write failed
  state_or_fault : (s : Status) → ran.state ≡ s → (result ≡ s) ⊎ ((result ≡ status.WriteFault) ⊎ (result ≡ status.Memory))
  state_or_fault s e = elim ran.printed [ inl a ↦ inl (a.0 ∙ e) | inr b ↦ inr (inl b.0) ]

  pub reads_clause : r < r' → (result ≡ status.ReadFault) ⊎ ((result ≡ status.WriteFault) ⊎ (result ≡ status.Memory))
  reads_clause l = state_or_fault status.ReadFault (reads_output held steady o o' r r' ran.task ran.state ran.text ran.output l)

  pub opens_clause : o < o' → (result ≡ status.CannotOpen) ⊎ ((result ≡ status.WriteFault) ⊎ (result ≡ status.Memory))
  opens_clause l = state_or_fault status.CannotOpen (opens_output held steady o o' r r' ran.task ran.state ran.text ran.output l)

  pub absent_clause : (task : Task) (file : NamedFile) → Asks words task → problem_file task ≡ Some file → held file.name ≡ Some None
      → (result ≡ status.CannotOpen) ⊎ ((result ≡ status.WriteFault) ⊎ (result ≡ status.Memory))
  absent_clause task file asks named absent = state_or_fault status.CannotOpen (absent_output held steady o o' r r' task ran.state ran.text (output_of task asks) file named absent)

  pub second_absent_clause : (task : Task) (file next : NamedFile) (bytes : List ℕ) (p : Parts) → Asks words task → problem_file task ≡ Some file → AreTold held file bytes → Judges bytes (Ok p)
      → second_file task ≡ Some next → held next.name ≡ Some None → Stays r r'
      → (result ≡ status.CannotOpen) ⊎ ((result ≡ status.WriteFault) ⊎ (result ≡ status.Memory))
  second_absent_clause task file next bytes p asks named told judged second absent stays =
      state_or_fault status.CannotOpen (second_absent_output held steady o o' r r' task ran.state ran.text (output_of task asks) file next bytes p named told judged second absent stays)

  -- no file that the task names is absent, where the files tell those of the task
  pub told_clause : (task : Task) (inputs : Inputs) → Asks words task → Tell held task inputs → IsTrue steady → result ≢ status.CannotOpen
  told_clause task inputs asks tell is e =
      let a = whole (λ g. cc) in
      let c = closed_output held steady o o' r r' task ran.state ran.text (output_of task asks) (a.0 ∙ e) in
      told_reached held steady o o' r r' task inputs c.file tell c.reached (c.steady_absent is)

  -- the output is judged where no count of reads and opens rose, or the files are steady
  judged_state : (task : Task) (inputs : Inputs) (s : Status) (x : List ℕ) → IsOutput held steady o o' r r' task s x → Tell held task inputs
      → (Stays o o' × Stays r r') ⊎ IsTrue steady → IsJudged s
  judged_state task inputs s x (due read state text eo er were d) tell calm = due_judged read task state text d
  judged_state task inputs s x (cannot_open file a b c d) tell calm = elim calm [
    | inl stays ↦ absurd (rose_stays o o' a stays.0)
    | inr is ↦ absurd (told_reached held steady o o' r r' task inputs file tell c (d is))
  ]
  judged_state task inputs s x (read_fault file a b c d e) tell calm = elim calm [
    | inl stays ↦ absurd (rose_stays r r' a stays.1)
    | inr is ↦ absurd (e is)
  ]

  pub complete_clause : (task : Task) (inputs : Inputs) → Asks words task → Tell held task inputs → (Stays o o' × Stays r r') ⊎ IsTrue steady → Stays f f'
      → (result ≡ status.Memory) ⊎ ((text : List ℕ) × IsDue inputs task result text × Grows w w' text)
  complete_clause task inputs asks tell calm stays = elim ran.printed [
    | inl a ↦ (
        let out = output_of task asks in
        let j = judged_state task inputs ran.state ran.text out tell calm in
        let mine = judged_told held steady o o' r r' task ran.state ran.text inputs (judged_output held steady o o' r r' task ran.state ran.text out j) tell in
        inr (ran.text, subst (λ (s : Status). IsDue inputs task s ran.text) (sym a.0) mine, a.2))
    | inr b ↦ absurd (rose_stays f f' b.1 stays)
  ]

  -- the files of `solve` tell what its one file holds
  solve_tells : (file bytes : List ℕ) (height size : ℕ) → held file ≡ Some (Some bytes) → Tell held (solve file height size) (record { problem = take 1048577 bytes; second = [] })
  solve_tells file bytes height size told = record {
    problem = λ named e. (
        let same = same_file (problem_file (solve file height size)) (record { name = file; limit = 1048576 }) named refl e in
        subst (λ (n : NamedFile). AreTold held n (take 1048577 bytes)) same (record { whole = bytes; told = told; cut = refl }));
    second = λ p judged named e. absurd (let none : None ≡ Some named = e in cc);
  }

  pub found_clause : result ≡ status.Found → (file bytes : List ℕ) (height size : ℕ) → Asks words (solve file height size) → held file ≡ Some (Some bytes)
      → (p : Parts) × (text : List ℕ) × Judges (take 1048577 bytes) (Ok p) × IsAnswerText p height size text × Grows w w' text
  found_clause e file bytes height size asks told =
      let j : IsJudged result = record { no_bad_words = λ g. cc; no_open_fault = λ g. cc; no_read_fault = λ g. cc; no_write_fault = λ g. cc; no_want_of_memory = λ g. cc } in
      let d = (due_clause j).1 (solve file height size) (record { problem = take 1048577 bytes; second = [] }) asks (solve_tells file bytes height size told) in
      let is = found_due (record { problem = take 1048577 bytes; second = [] }) (solve file height size) result d.0 d.1 file height size refl e in
      (is.0, d.0, is.1, is.2, d.2)

  pub no_term_clause : result ≡ status.NoTerm → (file bytes : List ℕ) (height size : ℕ) → Asks words (solve file height size) → held file ≡ Some (Some bytes)
      → (p : Parts) × Judges (take 1048577 bytes) (Ok p) × IsAnswer p height size None × Grows w w' none_line
  no_term_clause e file bytes height size asks told =
      let j : IsJudged result = record { no_bad_words = λ g. cc; no_open_fault = λ g. cc; no_read_fault = λ g. cc; no_write_fault = λ g. cc; no_want_of_memory = λ g. cc } in
      let d = (due_clause j).1 (solve file height size) (record { problem = take 1048577 bytes; second = [] }) asks (solve_tells file bytes height size told) in
      let is = none_due (record { problem = take 1048577 bytes; second = [] }) (solve file height size) result d.0 d.1 file height size refl e in
      (is.0, is.1, is.2, subst (λ (text : List ℕ). Grows w w' text) is.3 d.2)

  -- and so do those of `show`
  show_tells : (file bytes : List ℕ) → held file ≡ Some (Some bytes) → Tell held (show file) (record { problem = take 1048577 bytes; second = [] })
  show_tells file bytes told = record {
    problem = λ named e. (
        let same = same_file (problem_file (show file)) (record { name = file; limit = 1048576 }) named refl e in
        subst (λ (n : NamedFile). AreTold held n (take 1048577 bytes)) same (record { whole = bytes; told = told; cut = refl }));
    second = λ p judged named e. absurd (let none : None ≡ Some named = e in cc);
  }

  pub shown_clause : result ≡ status.Shown → (file bytes : List ℕ) → Asks words (show file) → held file ≡ Some (Some bytes)
      → (p : Parts) × Judges (take 1048577 bytes) (Ok p) × Grows w w' (problem_text p)
  shown_clause e file bytes asks told =
      let j : IsJudged result = record { no_bad_words = λ g. cc; no_open_fault = λ g. cc; no_read_fault = λ g. cc; no_write_fault = λ g. cc; no_want_of_memory = λ g. cc } in
      let d = (due_clause j).1 (show file) (record { problem = take 1048577 bytes; second = [] }) asks (show_tells file bytes told) in
      let is = shown_due (record { problem = take 1048577 bytes; second = [] }) (show file) result d.0 d.1 file refl e in
      (is.0, is.1, subst (λ (text : List ℕ). Grows w w' text) is.2 d.2)

  -- what the two files of `check` hold is told
  check_tells : (file name bytes text : List ℕ) (height : ℕ) → held file ≡ Some (Some bytes) → held name ≡ Some (Some text)
      → Tell held (check file name height) (record { problem = take 1048577 bytes; second = take 8388609 text })
  check_tells file name bytes text height told second = record {
    problem = λ named e. (
        let same = same_file (problem_file (check file name height)) (record { name = file; limit = 1048576 }) named refl e in
        subst (λ (n : NamedFile). AreTold held n (take 1048577 bytes)) same (record { whole = bytes; told = told; cut = refl }));
    second = λ p judged named e. (
        let same = same_file (second_file (check file name height)) (record { name = name; limit = 8388608 }) named refl e in
        subst (λ (n : NamedFile). AreTold held n (take 8388609 text)) same (record { whole = text; told = second; cut = refl }));
  }

  pub valid_clause : result ≡ status.Valid → (file name bytes text : List ℕ) (height : ℕ) → Asks words (check file name height) → held file ≡ Some (Some bytes) → held name ≡ Some (Some text)
      → (p : Parts) × (answer : TreeAnswer) × Judges (take 1048577 bytes) (Ok p) × Reads p (take 8388609 text) (Ok answer)
      × Lang p.grammar start answer.term × Solves p height answer.term × Grows w w' valid_line
  valid_clause e file name bytes text height asks told second =
      let j : IsJudged result = record { no_bad_words = λ g. cc; no_open_fault = λ g. cc; no_read_fault = λ g. cc; no_write_fault = λ g. cc; no_want_of_memory = λ g. cc } in
      let inputs : Inputs = record { problem = take 1048577 bytes; second = take 8388609 text } in
      let d = (due_clause j).1 (check file name height) inputs asks (check_tells file name bytes text height told second) in
      let is = valid_due inputs (check file name height) result d.0 d.1 file name height refl e in
      let holds = valid_solves is.0 height (take 8388609 text) checked.Valid is.2 refl in
      (is.0, holds.answer, is.1, holds.read, holds.member, holds.solved, subst (λ (line : List ℕ). Grows w w' line) is.3 d.2)

  pub memory_clause : result ≡ status.Memory → ⊥
  memory_clause e = let a = whole (λ g. cc) in others.2 (a.0 ∙ e)

  pub line_clause : ForSome (line_of result) (λ line. Grows w w' line)
  line_clause = printed_line result f f' w w' ran.state ran.text ran.printed (output_line held steady o o' r r' ran.task ran.state ran.text ran.output)
