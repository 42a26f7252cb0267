use Rattle.std.specs.Prelude.{ℕ, List, All}
use Rattle.std.proofs.lemmas.List.Elements.{All-weaker}
use Rattle.sexpr_core.specs.declared.form.Sexpr.{Sexpr}
use Rattle.sexpr_core.specs.Spelling.{Spell}
use Rattle.syntax_core.specs.declared.commands.Head.{Head}
use Rattle.name_core.specs.Faults.{shapes}
use Rattle.name_core.specs.Limits.{limits}
use Rattle.name_core.specs.Names.{names}
use Rattle.sort_core.specs.Sorts.{sorts}
use Rattle.elab_laws.specs.Places.{AreInOrder, IsShaped}
use Rattle.elab_laws.proofs.LimitOrder.{limits_in_order}
use Rattle.elab_laws.proofs.NamesInOrder.{names_in_order}
use Rattle.elab_laws.proofs.SortOrder.{sorts_in_order}
use Rattle.elab_laws.proofs.SpelledPlaces.{Spans, one_within, shapes_in_order, spell_rise, spelled_within}
use Rattle.elab_laws.proofs.laws.nodes_from_the_left.Goals as goal

each : (P : Sexpr → Type 0) → ((low : ℕ) (form : Sexpr) (high : ℕ) → Spans low form high → P form) → (text : List ℕ) (forms : List Sexpr) → Spell text forms → All P forms
each P holds text forms spelled =
    All-weaker (λ (form : Sexpr). (from : ℕ) × (to : ℕ) × Spans from form to) P (λ form h. holds h.0 form h.1 h.2) forms (one_within 0 forms spelled.0 (spelled_within spelled.1))

pub returns-clause-nodes : goal.returns-clause-nodes
returns-clause-nodes c = spell_rise

pub returns-clause-shaped : goal.returns-clause-shaped
returns-clause-shaped c = each (λ form. AreInOrder (shapes form)) shapes_in_order

pub returns-clause-limited : goal.returns-clause-limited
returns-clause-limited c = λ s. each (λ form. (h : Head) → IsShaped h form → AreInOrder (limits s h form)) (λ low form high span h shaped. limits_in_order s h low form high shaped.word shaped.shape span)

pub returns-clause-named : goal.returns-clause-named
returns-clause-named c = λ s. each (λ form. (h : Head) → IsShaped h form → AreInOrder (names s h form)) (λ low form high span h shaped. names_in_order s h low form high shaped.word shaped.shape span)

pub returns-clause-sorted : goal.returns-clause-sorted
returns-clause-sorted c = λ s. each (λ form. (h : Head) → IsShaped h form → AreInOrder (sorts s h form)) (λ low form high span h shaped. sorts_in_order s h low form high shaped.word shaped.shape span)
