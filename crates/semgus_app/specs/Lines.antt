-- The lines that are printed.
use Rattle.std.specs.Prelude.{◌==◌, ℕ, List, ◌++◌, [], ◌∷◌, Option, Some, None, if◌then◌else◌, codes, decimal}
use Rattle.syntax_core.specs.declared.fault.Fault.{Fault}
use Rattle.answer_core.specs.AnswerText.{word}
use Rattle.checking_core.specs.declared.check.Flaw.{Flaw}
use Rattle.checking_core.specs.declared.check.Flaw.TheVariants as flaw
use Rattle.semgus_app.specs.declared.status.Status.{Status}
use Rattle.semgus_app.specs.declared.status.Status.TheVariants as status
use Rattle.semgus_app.specs.declared.status.Which.{Which}
use Rattle.semgus_app.specs.declared.status.Which.TheVariants as which

-- `cannot open NAME`
abbrev pub cannot_open_line : List ℕ → List ℕ
cannot_open_line name = codes "cannot open " ++ name ++ 10 ∷ []

abbrev pub read_fault_line : List ℕ
read_fault_line = codes "read fault\n"

abbrev pub bad_words_line : List ℕ
bad_words_line = codes "bad words\n"

abbrev pub none_line : List ℕ
none_line = codes "none\n"

abbrev pub valid_line : List ℕ
valid_line = codes "valid\n"

abbrev pub refusal_start : Which → List ℕ
refusal_start which.Problem = codes "refused"
refusal_start which.Answer = codes "answer refused"

-- `refused PLACE REASON`, and for reason 50 `refused PLACE 50 LIMIT`
abbrev pub refusal_line : Which → Fault → List ℕ
refusal_line file fault = refusal_start file ++ word (decimal fault.place) ++ word (decimal fault.reason)
    ++ (if fault.reason == 50 then word (decimal fault.limit) else []) ++ 10 ∷ []

-- the number of a flaw, and where it is
abbrev pub flaw_text : Flaw → List ℕ
flaw_text (flaw.Form fault) = codes " 1" ++ word (decimal fault.place) ++ word (decimal fault.reason)
flaw_text flaw.Nodes = codes " 2"
flaw_text flaw.Size = codes " 3"
flaw_text flaw.Grammar = codes " 4"
flaw_text (flaw.Step bad) = codes " 5" ++ word (decimal bad.step) ++ word (decimal bad.reason)
flaw_text (flaw.Constraint number) = codes " 6" ++ word (decimal number)

abbrev pub flaw_line : Flaw → List ℕ
flaw_line f = codes "invalid" ++ flaw_text f ++ 10 ∷ []

-- the line that a status prints, where it is the same for all tasks and files
abbrev pub line_of : Status → Option (List ℕ)
line_of status.Found = None
line_of status.Shown = None
line_of status.Valid = Some valid_line
line_of status.NoTerm = Some none_line
line_of (status.Invalid f) = Some (flaw_line f)
line_of status.BadWords = Some bad_words_line
line_of (status.Refused file fault) = Some (refusal_line file fault)
line_of status.CannotOpen = None
line_of status.ReadFault = Some read_fault_line
line_of status.WriteFault = None
line_of status.Memory = None
