-- What came of reading a file.
use Rattle.std.specs.Prelude.{◌≡◌, ◌≢◌, ℕ, ◌+◌, ◌≤◌, Bool, Option, Some, None, IsTrue, List, ◌++◌, length, take}
use Rattle.std.specs.Option.{ForSome}
use Rattle.semgus_io.specs.Counts.{Rises}
use Rattle.semgus_io.specs.Reads.{Takes}
use Rattle.semgus_app.specs.declared.contents.Contents.{Contents}
use Rattle.semgus_app.specs.declared.contents.Contents.TheVariants.{Read, Closed, Failed}
use Rattle.semgus_app.specs.Files.{Held, AreRead}
use Rattle.semgus_app.specs.Tasks.{NamedFile}

module _ {T : Type 0} (was_fed : T → List ℕ → Type 0) where
  -- one more piece, of n bytes, was taken of what was left, and fed after these bytes
  pub record WasFedPiece (left left' : Option (List ℕ)) (bytes : List ℕ) (n : ℕ) (fed : T) : Type 0 where
    pub piece : List ℕ
    pub size : length piece ≡ n
    pub taken : ForSome left (λ rest. Takes rest left' n piece)
    pub all : was_fed fed (bytes ++ piece)

  -- what was left was fed, to its end or to so many bytes
  pub record WasFedTo (left : Option (List ℕ)) (most : ℕ) (fed : T) : Type 0 where
    pub bytes : List ℕ
    pub all : was_fed fed bytes
    pub told : ForSome left (λ whole. bytes ≡ take most whole)
    pub short : length bytes ≤ most

  -- the bytes that were read of the file were fed
  pub record WasFedFile (held : Held) (file : NamedFile) (fed : T) : Type 0 where
    pub bytes : List ℕ
    pub all : was_fed fed bytes
    pub read : AreRead held file bytes
    pub short : length bytes ≤ file.limit + 1

  -- how the file was read, or the count of the failure
  abbrev pub AreContents : Held → Bool → NamedFile → (opens opens' reads reads' : ℕ) → Contents T → Type 0
  AreContents held steady file opens opens' reads reads' (Read fed) =
      (opens' ≡ opens) × (reads' ≡ reads) × WasFedFile held file fed
  AreContents held steady file opens opens' reads reads' Closed =
      Rises opens opens' × (reads' ≡ reads) × (IsTrue steady → held file.name ≡ Some None)
  AreContents held steady file opens opens' reads reads' Failed =
      Rises reads reads' × (opens' ≡ opens) × (held file.name ≢ Some None) × ¬ IsTrue steady
