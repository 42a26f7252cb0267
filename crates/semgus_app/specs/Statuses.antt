-- The exit status of each status, and the statuses that the bytes of files bring.
use Rattle.std.specs.Prelude.{◌≢◌, ℕ}
use Rattle.semgus_app.specs.declared.status.Status.{Status}
use Rattle.semgus_app.specs.declared.status.Status.TheVariants.{Found, Shown, Valid, NoTerm, Invalid, BadWords, Refused, CannotOpen, ReadFault, WriteFault, Memory}

abbrev pub number_of : Status → ℕ
number_of Found = 0
number_of Shown = 0
number_of Valid = 0
number_of NoTerm = 1
number_of (Invalid flaw) = 1
number_of BadWords = 2
number_of (Refused which fault) = 3
number_of CannotOpen = 4
number_of ReadFault = 4
number_of WriteFault = 5
number_of Memory = 6

-- the status comes of the bytes of the files, and not of the words, of a call that failed or of want of memory
pub record IsJudged (status : Status) : Type 0 where
  pub no_bad_words : status ≢ BadWords
  pub no_open_fault : status ≢ CannotOpen
  pub no_read_fault : status ≢ ReadFault
  pub no_write_fault : status ≢ WriteFault
  pub no_want_of_memory : status ≢ Memory
