-- All the nodes of a form that don't fit what is due in their places, from the left.
use Rattle.std.specs.Prelude.{ℕ, suc, if◌then◌else◌, Option, Some, None, List, [], ◌∷◌, ◌++◌, map}
use Rattle.sexpr_core.specs.declared.form.Sexpr.{Sexpr}
use Rattle.sexpr_core.specs.declared.form.Sexpr as sexpr
use Rattle.sexpr_core.specs.declared.form.Sexpr.TheOpen.{Sexpr-F, Nest-F}
use Rattle.sexpr_core.specs.declared.form.Sexpr.TheFolds.{fold-Sexpr}
use Rattle.sexpr_core.specs.Access.{place_of, parts_of}
use Rattle.syntax_core.specs.declared.roles.Due.{Due}
use Rattle.syntax_core.specs.Roles.{due_in, fits}

-- a form with its misfits, by what is due in its place
pub record Measured : Type 0 where
  pub form : Sexpr
  pub misfits : Due → List ℕ

-- the misfits of items, of which the first is in place k of a form with these parts
abbrev pub misfits_from : Due → List Sexpr → ℕ → List Measured → List ℕ
misfits_from due parts k [] = []
misfits_from due parts k (item ∷ items) = item.misfits (due_in due parts k) ++ misfits_from due parts (suc k) items

-- a node that doesn't fit is bad itself, and nothing is due in the places of its items
abbrev pub measured : Sexpr → List Measured → Measured
measured form items = record {
  form = form;
  misfits = λ due. if fits due form then misfits_from due (parts_of form) 0 items else place_of form ∷ [];
}

abbrev pub measured_step : Sexpr-F Measured Measured → Measured
measured_step (Sexpr-F.Symbol a) = measured (sexpr.Symbol a) []
measured_step (Sexpr-F.Numeral a) = measured (sexpr.Numeral a) []
measured_step (Sexpr-F.Text a) = measured (sexpr.Text a) []
measured_step (Sexpr-F.Keyword a) = measured (sexpr.Keyword a) []
measured_step (Sexpr-F.List inside) = inside

abbrev pub measured_nest : Nest-F Measured Measured → Measured
measured_nest n = measured (sexpr.List (record { place = n.place; items = map (λ item. item.form) n.items })) n.items

-- the nodes of a form that don't fit, where this is due
abbrev pub misfits : Due → Sexpr → List ℕ
misfits due form = (fold-Sexpr Measured Measured measured_step measured_nest form).misfits due

-- the first of the places
abbrev pub leftmost : List ℕ → Option ℕ
leftmost [] = None
leftmost (place ∷ places) = Some place
