-- What an answer file stands for whose bytes come in pieces.
use Rattle.std.specs.Prelude.{◌≡◌, ◌<◌, ◌^◌, ℕ, List, length}
use Rattle.sexpr_core.specs.Feeds.{StandsFor}
use Rattle.checking_core.specs.declared.file.AnswerFile.{AnswerFile}

-- these bytes were fed, in whatever pieces, and their forms were read
pub record IsReading (file : AnswerFile) (bytes : List ℕ) : Type 0 where
  pub count : file.count ≡ length bytes
  pub reads : StandsFor file.reader bytes file.forms

-- so few bytes were fed that places in them can be told
abbrev pub CanEnd : AnswerFile → Type 0
CanEnd file = (bytes : List ℕ) × IsReading file bytes × (length bytes < 2 ^ 32)
