-- What is read of the files of a task.
use Rattle.std.specs.Prelude.{◌≡◌, ◌+◌, ℕ, List, Option, Some, Ok, take}
use Rattle.std.specs.Option.{ForSome}
use Rattle.problem_core.specs.Problems.{Parts}
use Rattle.elab_core.specs.Judging.{Judges}
use Rattle.semgus_app.specs.Tasks.{Task, NamedFile, problem_file, second_file}

-- what files tell of a name: its bytes, or that there is no such file, or nothing
abbrev pub Held : Type 0
Held = List ℕ → Option (Option (List ℕ))

-- the bytes of the problem file of a task and of its second file, each cut after the byte past its limit
pub record Inputs : Type 0 where
  pub problem : List ℕ
  pub second : List ℕ

-- the file's bytes are told and are these, cut after the byte past its limit
pub record AreTold (held : Held) (file : NamedFile) (bytes : List ℕ) : Type 0 where
  pub whole : List ℕ
  pub told : held file.name ≡ Some (Some whole)
  pub cut : bytes ≡ take (file.limit + 1) whole

-- these bytes were read of the file: those that are told, where something is
abbrev pub AreRead : Held → NamedFile → List ℕ → Type 0
AreRead held file bytes = ForSome (held file.name) (λ contents. (whole : List ℕ) × (contents ≡ Some whole) × (bytes ≡ take (file.limit + 1) whole))

-- the files tell these bytes of the problem file and, if the problem is accepted, of the second file
pub record Tell (held : Held) (task : Task) (inputs : Inputs) : Type 0 where
  pub problem : ForSome (problem_file task) (λ file. AreTold held file inputs.problem)
  pub second : (problem : Parts) → Judges inputs.problem (Ok problem) → ForSome (second_file task) (λ file. AreTold held file inputs.second)

-- these bytes were read of the problem file and, if the problem is accepted, of the second file
pub record WereRead (held : Held) (task : Task) (inputs : Inputs) : Type 0 where
  pub problem : ForSome (problem_file task) (λ file. AreRead held file inputs.problem)
  pub second : (problem : Parts) → Judges inputs.problem (Ok problem) → ForSome (second_file task) (λ file. AreRead held file inputs.second)

-- these bytes were read of the problem file, and they are judged to be a problem
pub record IsAccepted (held : Held) (task : Task) (bytes : List ℕ) : Type 0 where
  pub read : ForSome (problem_file task) (λ file. AreRead held file bytes)
  pub problem : Parts
  pub judged : Judges bytes (Ok problem)

-- the run comes to this file: the problem file, or the second one after the problem was accepted
pub data IsReached (held : Held) (task : Task) (file : NamedFile) : Type 0 where
  as_problem : problem_file task ≡ Some file → IsReached held task file
  as_second : (bytes : List ℕ) → second_file task ≡ Some file → IsAccepted held task bytes → IsReached held task file
