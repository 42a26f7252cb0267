-- Why a command was not taken.
use Rattle.std.specs.Prelude.{◌≡◌, Option, Some}
use Rattle.syntax_core.specs.declared.fault.Fault.{Fault}
use Rattle.sort_core.specs.declared.error.ElabError.{ElabError}
use Rattle.sort_core.specs.declared.error.ElabError.TheVariants as error

-- it is refused for the fault that is due, or for want of memory
abbrev pub IsDue : Option Fault → ElabError → Type 0
IsDue due (error.Fault fault) = due ≡ Some fault
IsDue due error.Memory = Unit {0}
