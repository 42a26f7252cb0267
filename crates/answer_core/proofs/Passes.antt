-- The reading of a form, by what its passes find.
use Rattle.std.proofs.Common.{◌≡◌, ℕ, nat_lt, Some, None, Option, Err, length, option_map, refl, ap, ap₂, ◌∙◌}
use Rattle.std.specs.Option.{option_or, option_map_or}
use Rattle.sig_core.specs.Signatures.{Declarations}
use Rattle.sexpr_core.specs.declared.form.Sexpr.{Sexpr}
use Rattle.sexpr_core.specs.Access.{place_of}
use Rattle.answer_core.specs.declared.kinds.Kind.{Kind}
use Rattle.answer_core.specs.Names.{misnamed}
use Rattle.answer_core.specs.Readings.{Told, fault, first_fault, form_reading, kind_reading, misnumbered, told_unless, with_form}
use Rattle.answer_core.specs.Shapes.{due_after, first, kind_due, misfits}

module _ (sig : Declarations) (constraints : ℕ) (told : Told) (form : Sexpr) where
  abbrev due_kind : Option Kind
  due_kind = kind_due told.due (nat_lt (length told.derived) constraints) form

  abbrev next : Kind → Told
  next kind = record told { due = due_after kind }

  by_kind : (found : Option Kind) → due_kind ≡ found → form_reading sig constraints told form ≡ option_map_or (λ kind. kind_reading sig (next kind) kind form) found (Err (fault 1 (place_of form)))
  by_kind found e = ap (λ o. option_map_or (λ kind. kind_reading sig (next kind) kind form) o (Err (fault 1 (place_of form)))) e

  pub no_kind : due_kind ≡ None → form_reading sig constraints told form ≡ Err (fault 1 (place_of form))
  no_kind e = by_kind None e

  by_passes : (kind : Kind) (shape names : Option ℕ) → due_kind ≡ Some kind → first (misfits kind form) ≡ shape → first (misnamed sig told.nodes kind form) ≡ names
      → form_reading sig constraints told form ≡ told_unless (option_or (option_map (fault 1) shape) (option_or (option_map (fault 2) names) (first_fault 3 (misnumbered sig (next kind) kind form)))) (with_form sig (next kind) kind form)
  by_passes kind shape names e p q =
      by_kind (Some kind) e
      ∙ ap₂ (λ s n. told_unless (option_or (option_map (fault 1) s) (option_or (option_map (fault 2) n) (first_fault 3 (misnumbered sig (next kind) kind form)))) (with_form sig (next kind) kind form)) p q

  pub bad_shape : (kind : Kind) (place : ℕ) → due_kind ≡ Some kind → first (misfits kind form) ≡ Some place → form_reading sig constraints told form ≡ Err (fault 1 place)
  bad_shape kind place e p = by_passes kind (Some place) (first (misnamed sig told.nodes kind form)) e p refl

  pub bad_name : (kind : Kind) (place : ℕ) → due_kind ≡ Some kind → first (misfits kind form) ≡ None → first (misnamed sig told.nodes kind form) ≡ Some place → form_reading sig constraints told form ≡ Err (fault 2 place)
  bad_name kind place e p q = by_passes kind None (Some place) e p q

  pub good_names : (kind : Kind) → due_kind ≡ Some kind → first (misfits kind form) ≡ None → first (misnamed sig told.nodes kind form) ≡ None
      → form_reading sig constraints told form ≡ told_unless (first_fault 3 (misnumbered sig (next kind) kind form)) (with_form sig (next kind) kind form)
  good_names kind e p q = by_passes kind None None e p q
