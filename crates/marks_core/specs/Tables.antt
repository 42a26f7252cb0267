-- What a lens of marks keeps of its problem: where constructors hand on, and the probes of each type.
use Rattle.std.specs.Prelude.{ℕ, Bool, if◌then◌else◌, Option, Some, None, List, [], map, filter, length, slice_get}
use Rattle.std.specs.List.{flat_map, range_with_len}
use lib.Pointwise.{pointwise}
use Rattle.sig_core.specs.declared.value.Value.{Value}
use Rattle.sig_core.specs.declared.ids.TypeId.{TypeId}
use Rattle.sig_core.specs.declared.ids.ConId.{ConId}
use Rattle.sig_core.specs.declared.ids.RelId.{RelId}
use Rattle.sig_core.specs.declared.signature.Constructor.{Constructor}
use Rattle.sig_core.specs.declared.signature.Kind.{Kind}
use Rattle.sig_core.specs.Signatures.{Declarations, kinds_of, inputs_of, plain_sorts, term_type}
use Rattle.sig_core.specs.Values.{sort_of, same_sort}
use Rattle.rule_core.specs.Flow.{same_type}
use Rattle.problem_core.specs.Problems.{Parts}
use Rattle.eval_core.specs.Lenses.{hands_on}
use Rattle.eval_core.specs.Marks.{Probe, probes_of}

-- how many children a constructor has
abbrev pub arity : Option Constructor → ℕ
arity None = 0
arity (Some c) = length c.args

-- whether the constructor hands on, at each of its places
abbrev pub places_of : Parts → ConId → List Bool
places_of problem con = map (hands_on problem con) (range_with_len 0 (arity (slice_get problem.signature.constructors con.0)))

abbrev pub places_at : Parts → ℕ → List Bool
places_at problem n = places_of problem (record { 0 = n })

-- that of each constructor
abbrev pub all_places : Parts → List (List Bool)
all_places problem = map (places_at problem) (range_with_len 0 (length problem.signature.constructors))

-- one value of the right sort for each input
abbrev pub has_inputs : List Kind → List Value → Bool
has_inputs kinds inputs = pointwise (λ v s. same_sort (sort_of v) s) inputs (inputs_of kinds (plain_sorts kinds))

abbrev pub probe_with : RelId → List Value → Probe
probe_with r inputs = record { relation = r; inputs = inputs }

-- the probes of a relation on terms of the type, of these lists of inputs
abbrev pub probes_with : Declarations → TypeId → RelId → List (List Value) → List Probe
probes_with sig type r examples =
    if same_type (term_type (kinds_of sig r)) (Some type)
    then map (probe_with r) (filter (has_inputs (kinds_of sig r)) examples)
    else []

abbrev pub probes_in : Declarations → TypeId → List (List Value) → ℕ → List Probe
probes_in sig type examples n = probes_with sig type (record { 0 = n }) examples

-- those of all relations
abbrev pub probes_at : Declarations → TypeId → List (List Value) → List Probe
probes_at sig type examples = flat_map (probes_in sig type examples) (range_with_len 0 (length sig.relations))

abbrev pub probes_for : Parts → ℕ → List Probe
probes_for problem n = probes_of problem (record { 0 = n })

-- the probes of each type
abbrev pub probes_by_type : Parts → List (List Probe)
probes_by_type problem = map (probes_for problem) (range_with_len 0 (length problem.signature.types))
