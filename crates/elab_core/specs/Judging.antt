-- What a file states, or why it is refused.
use Rattle.std.specs.Prelude.{◌<◌, ◌≤◌, ℕ, if◌then◌else◌, Option, Some, None, Result, Ok, Err, List, [], ◌∷◌, length}
use Rattle.sexpr_core.specs.declared.form.Sexpr.{Sexpr}
use Rattle.sexpr_core.specs.Prefixes.{Complete, IsFault}
use Rattle.sexpr_core.specs.Spelling.{Spell}
use Rattle.problem_core.specs.Problems.{Parts}
use Rattle.syntax_core.specs.declared.fault.Fault.{Fault}
use Rattle.syntax_core.specs.Shapes.{refusal}
use Rattle.name_core.specs.States.{State, Wanted, start}
use Rattle.state_core.specs.Commands.{Outcome, refused, stands, step}

-- the outcome after these forms
abbrev pub after : Outcome → List Sexpr → Outcome
after outcome [] = outcome
after outcome (form ∷ forms) = after (step outcome form) forms

-- the problem that has been stated, for this wanted function
abbrev pub parts_of : State → Wanted → Parts
parts_of s wanted = record {
  infos = s.infos;
  signature = s.signature;
  rules = s.rules;
  grammar = wanted.grammar;
  wanted = wanted.name;
  constraints = s.constraints;
}

-- the problem, where a `check-synth` came before the end
abbrev pub stated_by : ℕ → State → Option Wanted → Result Parts Fault
stated_by end s None = Err (refusal end 60)
stated_by end s (Some wanted) = if s.is_over then Ok (parts_of s wanted) else Err (refusal end 60)

abbrev pub closed : ℕ → Outcome → Result Parts Fault
closed end (stands s) = stated_by end s s.wanted
closed end (refused fault) = Err fault

-- why a text is refused that has a lexical fault: for the first refusal among its complete forms, else for that fault
abbrev pub cut_short : ℕ → ℕ → Outcome → Fault
cut_short place reason (stands s) = refusal place reason
cut_short place reason (refused fault) = fault

-- What a text of bytes is judged to be.
pub data Judges (text : List ℕ) : Result Parts Fault → Type 0 where
  too_long : 1048576 < length text → Judges text (Err (record { place = 1048576; reason = 50; limit = 1 }))
  spelled : (forms : List Sexpr) → length text ≤ 1048576 → Spell text forms → Judges text (closed (length text) (after (stands start) forms))
  misspelled : (forms : List Sexpr) (place reason : ℕ) → length text ≤ 1048576 → IsFault text place reason → Complete text forms →
      Judges text (Err (cut_short place reason (after (stands start) forms)))
