-- What a lens means, as one record: a clause writes `L.Lens` for the meanings of the lens type L.
pub use Rattle.lens_core.specs.declared.lens.Lens.{Ghosts as LensOf}
use Rattle.lens_core.specs.Lenses.{Stays}

-- the lens and what it became have one meaning
abbrev pub KeepsMeaning : {L Mark : Type 0} → LensOf L Mark → L → L → Type 0
KeepsMeaning {L} {Mark} lens old new = Stays (lens.has_mark old) (lens.has_mark new) (lens.same_mark old) (lens.same_mark new)
    (lens.is_for old) (lens.is_for new) (lens.is_plain old) (lens.is_plain new)
