-- The table of places, read at a place of a constructor.
use Rattle.std.proofs.Common.{◌≡◌, ◌<◌, ℕ, Bool, false, List, length, slice_get, slice_index_or, get_or, ap, ap₂, ◌∙◌, arith}
use Rattle.std.proofs.lemmas.List.FromFn.{get_or-map-range_with_len, length-map-range_with_len}
use Rattle.std.proofs.lemmas.Option.{slice_get_within}
use Rattle.sig_core.specs.declared.ids.ConId.{ConId}
use Rattle.lens_core.specs.Lenses.{HasPlace}
use Rattle.problem_core.specs.Problems.{Parts}
use Rattle.eval_core.specs.Lenses.{hands_on}
use Rattle.marks_core.specs.Tables.{all_places, arity, places_at, places_of}

module _ (problem : Parts) (con : ConId) (i : ℕ) (place : HasPlace problem.signature con i) where
  stands : con.0 < length problem.signature.constructors
  stands = slice_get_within problem.signature.constructors con.0 place.0 place.1

  pub con_within : (lists : List (List Bool)) → lists ≡ all_places problem → con.0 < length lists
  con_within lists are =
      let count : length lists ≡ length problem.signature.constructors = ap length are ∙ length-map-range_with_len (places_at problem) 0 (length problem.signature.constructors) in
      let s = stands in
      omega arith

  pub list_is : (lists : List (List Bool)) (list : List Bool) (k : ℕ) → lists ≡ all_places problem → k ≡ con.0 → list ≡ get_or lists k list → list ≡ places_of problem con
  list_is lists list k are at is =
      is ∙ ap₂ (λ ls j. get_or ls j list) are at ∙ get_or-map-range_with_len (places_at problem) 0 (length problem.signature.constructors) con.0 con.0 list stands (omega arith)

  few : arity (slice_get problem.signature.constructors con.0) ≡ length place.0.args
  few = ap arity place.1

  in_arity : i < arity (slice_get problem.signature.constructors con.0)
  in_arity = let f = few in let below = place.2 in omega arith

  pub place_within : (list : List Bool) → list ≡ places_of problem con → i < length list
  place_within list is =
      let count : length list ≡ arity (slice_get problem.signature.constructors con.0) = ap length is ∙ length-map-range_with_len (hands_on problem con) 0 (arity (slice_get problem.signature.constructors con.0)) in
      let below = in_arity in
      omega arith

  pub place_is : (list : List Bool) → list ≡ places_of problem con → slice_index_or list i false ≡ hands_on problem con i
  place_is list is = ap (λ l. get_or l i false) is ∙ get_or-map-range_with_len (hands_on problem con) 0 (arity (slice_get problem.signature.constructors con.0)) i i false in_arity (omega arith)
