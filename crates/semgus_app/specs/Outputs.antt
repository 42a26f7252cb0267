-- What a run has to print, and what it printed.
use Rattle.std.specs.Prelude.{◌≡◌, ◌≢◌, ◌⊎◌, ℕ, Bool, List, Option, Some, None, IsTrue}
use Rattle.semgus_io.specs.Counts.{Rises}
use Rattle.semgus_io.specs.Writes.{Grows, GrowsByPart}
use Rattle.semgus_app.specs.declared.status.Status.{Status}
use Rattle.semgus_app.specs.declared.status.Status.TheVariants as status
use Rattle.semgus_app.specs.Dues.{IsDue}
use Rattle.semgus_app.specs.Files.{Held, Inputs, WereRead, IsReached}
use Rattle.semgus_app.specs.Lines.{cannot_open_line, read_fault_line}
use Rattle.semgus_app.specs.Tasks.{Task, NamedFile}

-- The status and the text that a task comes to: what is due for the bytes that were read, or the line of the call that
-- failed. `opens` and `reads` are the counts of opens and reads that failed, before, and with a stroke after.
pub data IsOutput (held : Held) (steady : Bool) (opens opens' reads reads' : ℕ) (task : Task) : Status → List ℕ → Type 0 where
  due : (inputs : Inputs) (state : Status) (text : List ℕ) →
      opens' ≡ opens → reads' ≡ reads → WereRead held task inputs → IsDue inputs task state text →
      IsOutput held steady opens opens' reads reads' task state text
  cannot_open : (file : NamedFile) →
      Rises opens opens' → reads' ≡ reads → IsReached held task file → (IsTrue steady → held file.name ≡ Some None) →
      IsOutput held steady opens opens' reads reads' task status.CannotOpen (cannot_open_line file.name)
  read_fault : (file : NamedFile) →
      Rises reads reads' → opens' ≡ opens → IsReached held task file → held file.name ≢ Some None → ¬ IsTrue steady →
      IsOutput held steady opens opens' reads reads' task status.ReadFault read_fault_line

-- no call failed: no count of opens, reads or writes that failed is greater than before
abbrev pub NoneRose : (opens opens' reads reads' writes writes' : ℕ) → Type 0
NoneRose opens opens' reads reads' writes writes' = (opens' ≡ opens) × (reads' ≡ reads) × (writes' ≡ writes)

-- The text was printed whole, and the run ended with this status; or a write failed, and a first part was printed.
-- `faults` is the count of writes that failed, and `written` what the sink took, before, and with a stroke after.
abbrev pub IsPrinted : (result : Status) (faults faults' : ℕ) (written written' : Option (List ℕ)) → Status → List ℕ → Type 0
IsPrinted result faults faults' written written' state text =
    ((result ≡ state) × (faults' ≡ faults) × Grows written written' text)
    ⊎ ((result ≡ status.WriteFault) × Rises faults faults' × GrowsByPart written written' text)
