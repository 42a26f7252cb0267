-- A table of the outcomes that were found, seen as the list of its entries.
use Rattle.std.specs.Prelude.{◌≡◌, ◌≤◌, ◌⊎◌, ℕ, List, All, Contains}
use Rattle.sig_core.specs.declared.ids.RelId.{RelId}
use Rattle.sig_core.specs.declared.value.Value.{Value}
use Rattle.term_core.specs.declared.ids.TermId.{TermId}
use Rattle.eval_core.specs.declared.outcome.Outcome.{Outcome}
use Rattle.eval_core.specs.declared.table.Key.{Key}
use Rattle.eval_core.specs.declared.table.Kept.{Kept}
use Rattle.eval_core.specs.Evaluations.{Entry}

-- what stands under a key
abbrev pub entry_of : Key × Kept → Entry
entry_of e = record { relation = e.0.relation; term = e.0.term; inputs = e.0.inputs; height = e.1.height; outcomes = e.1.outcomes }

-- the entries are of one relation, term and inputs
pub record AreOfOne (e f : Entry) : Type 0 where
  pub relation : e.relation ≡ f.relation
  pub term : e.term ≡ f.term
  pub inputs : e.inputs ≡ f.inputs

-- `new` has this entry and entries of `old`, and lacks none of them but what the entry stands in place of
pub record IsWith (old : List Entry) (entry : Entry) (new : List Entry) : Type 0 where
  pub there : Contains new entry
  pub others : All (λ e. Contains old e ⊎ (e ≡ entry)) new
  pub stay : All (λ e. Contains new e ⊎ AreOfOne e entry) old

-- the outcomes within this height at least are kept
pub record IsKept (entries : List Entry) (relation : RelId) (term : TermId) (inputs : List Value) (height : ℕ) : Type 0 where
  pub reach : ℕ
  pub outcomes : List Outcome
  pub listed : Contains entries (record { relation = relation; term = term; inputs = inputs; height = reach; outcomes = outcomes })
  pub reaches : height ≤ reach
