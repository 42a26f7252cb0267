-- What the forms of an answer stand for, and the first node that is bad.
use Rattle.std.specs.Prelude.{ℕ, zero, suc, ◌^◌, false, not, ◌==◌, nat_lt, if◌then◌else◌, Option, Some, None, is_none, option_map, unwrap_or, Result, Ok, Err, List, [], ◌∷◌, ◌++◌, map, drop, length, slice_index_or}
use Rattle.std.specs.List.{flat_map}
use Rattle.std.specs.Option.{ok_or, option_or, option_map_or}
use Rattle.sig_core.specs.declared.ids.ConId.{ConId}
use Rattle.sig_core.specs.declared.value.Value.{Value}
use Rattle.sig_core.specs.declared.value.Value.TheVariants as value
use Rattle.sig_core.specs.Signatures.{Declarations}
use Rattle.term_core.specs.declared.tree.Tree.{Tree}
use Rattle.term_core.specs.Banks.{leaf}
use Rattle.term_core.specs.Terms.{node, size}
use Rattle.deriv_core.specs.Steps.{TreeStep}
use Rattle.sexpr_core.specs.declared.form.Sexpr.{Sexpr}
use Rattle.sexpr_core.specs.Access.{place_of, parts_of, item_of, others_of}
use Rattle.answer_core.specs.declared.answer.AnswerFault.{AnswerFault}
use Rattle.answer_core.specs.declared.kinds.Due.{Due}
use Rattle.answer_core.specs.declared.kinds.Due.TheVariants as due
use Rattle.answer_core.specs.declared.kinds.Kind.{Kind}
use Rattle.answer_core.specs.declared.kinds.Kind.TheVariants as kind
use Rattle.answer_core.specs.Numbers.{number_of, literal}
use Rattle.answer_core.specs.Shapes.{bad_if, deepest, due_after, first, kind_due, misfits}
use Rattle.answer_core.specs.Names.{constructor_at, relation_at, misnamed}

-- what forms so far stand for: the term and its size, once they were read, the nodes, the steps, the number of each
-- constraint's step, and what may come next
pub record Told : Type 0 where
  pub due : Due
  pub term : Option Tree
  pub size : Option ℕ
  pub nodes : List Tree
  pub steps : List TreeStep
  pub derived : List ℕ

abbrev pub nothing : Told
nothing = record { due = due.Answer; term = None; size = None; nodes = []; steps = []; derived = [] }

-- What a form adds.

abbrev pub constructor_or : Option ConId → ConId
constructor_or con = unwrap_or con (record { 0 = 0 })

-- the term that a form spells, which is followed to this depth of lists
unfoldable pub term_of : ℕ → Declarations → Sexpr → Tree
term_of zero sig form = node (constructor_or (constructor_at sig (item_of 0 form))) []
term_of (suc depth) sig form = node (constructor_or (constructor_at sig (item_of 0 form))) (map (term_of depth sig) (others_of form))

-- the node that the numeral names
abbrev pub node_at : List Tree → Sexpr → Tree
node_at nodes numeral = slice_index_or nodes (number_of numeral) leaf

abbrev pub node_of : Declarations → List Tree → Sexpr → Tree
node_of sig nodes form = node (constructor_or (constructor_at sig (item_of 2 form))) (map (node_at nodes) (drop 3 (parts_of form)))

abbrev pub value_of : Sexpr → Value
value_of form = unwrap_or (literal form) (value.Bool false)

abbrev pub step_of : Declarations → List Tree → Sexpr → TreeStep
step_of sig nodes form = record {
  relation = unwrap_or (relation_at sig (item_of 2 form)) (record { 0 = 0 });
  node = node_at nodes (item_of 3 form);
  rule = number_of (item_of 4 form);
  values = map value_of (parts_of (item_of 5 form));
  premises = map number_of (parts_of (item_of 6 form));
}

abbrev pub with_size : Told → ℕ → Told
with_size told size = record told { size = Some size }

abbrev pub with_derived : Told → ℕ → Told
with_derived told step = record told { derived = told.derived ++ step ∷ [] }

-- what is told with a form of the kind more
abbrev pub with_form : Declarations → Told → Kind → Sexpr → Told
with_form sig told kind.Answer form = told
with_form sig told kind.Term form = record told { term = Some (term_of deepest sig (item_of 1 form)) }
with_form sig told kind.Size form = with_size told (number_of (item_of 1 form))
with_form sig told kind.Node form = record told { nodes = told.nodes ++ node_of sig told.nodes form ∷ [] }
with_form sig told kind.Step form = record told { steps = told.steps ++ step_of sig told.nodes form ∷ [] }
with_form sig told kind.Derived form = with_derived told (number_of (item_of 2 form))

-- The numbers of a form that are bad.

unfoldable pub not_the_number : ℕ → Sexpr → List ℕ
not_the_number n numeral = bad_if (not (number_of numeral == n)) numeral

unfoldable pub not_below : ℕ → Sexpr → List ℕ
not_below bound numeral = bad_if (not (nat_lt (number_of numeral) bound)) numeral

unfoldable pub not_in_range : Sexpr → List ℕ
not_in_range form = bad_if (is_none (literal form)) form

-- the bad nodes, or these others where there are none
abbrev pub else_bad : List ℕ → List ℕ → List ℕ
else_bad [] others = others
else_bad (place ∷ places) others = place ∷ places

-- a node of size 2 ^ 32 or more is bad itself, where its numbers are good
abbrev pub node_misnumbered : Declarations → List Tree → Sexpr → List ℕ
node_misnumbered sig nodes form =
    else_bad (not_the_number (length nodes) (item_of 1 form) ++ flat_map (not_below (number_of (item_of 1 form))) (drop 3 (parts_of form)))
    (bad_if (not (nat_lt (size (node_of sig nodes form)) (2 ^ 32))) form)

-- of the form of a step but for its own number
abbrev pub parts_misnumbered : ℕ → Sexpr → List ℕ
parts_misnumbered nodes form =
    not_below nodes (item_of 3 form) ++ (not_below (2 ^ 64) (item_of 4 form)
    ++ (flat_map not_in_range (parts_of (item_of 5 form)) ++ flat_map (not_below (2 ^ 64)) (parts_of (item_of 6 form))))

abbrev pub step_misnumbered : ℕ → ℕ → Sexpr → List ℕ
step_misnumbered nodes steps form = not_the_number steps (item_of 1 form) ++ parts_misnumbered nodes form

abbrev pub derived_misnumbered : Told → Sexpr → List ℕ
derived_misnumbered told form = not_the_number (length told.derived) (item_of 1 form) ++ not_below (length told.steps) (item_of 2 form)

-- the nodes of a form of the kind that are bad by their numbers
abbrev pub misnumbered : Declarations → Told → Kind → Sexpr → List ℕ
misnumbered sig told kind.Size form = not_below (2 ^ 64) (item_of 1 form)
misnumbered sig told kind.Node form = node_misnumbered sig told.nodes form
misnumbered sig told kind.Step form = step_misnumbered (length told.nodes) (length told.steps) form
misnumbered sig told kind.Derived form = derived_misnumbered told form
misnumbered sig told _ form = []

-- The first bad node.

abbrev pub fault : ℕ → ℕ → AnswerFault
fault reason place = record { place = place; reason = reason }

abbrev pub first_fault : ℕ → List ℕ → Option AnswerFault
first_fault reason places = option_map (fault reason) (first places)

-- what is told, if nothing is bad
abbrev pub told_unless : Option AnswerFault → Told → Result Told AnswerFault
told_unless (Some bad) told = Err bad
told_unless None told = Ok told

-- the shape of a form is tested first, then its names, then its numbers
abbrev pub kind_fault : Declarations → Told → Kind → Sexpr → Option AnswerFault
kind_fault sig told kind form =
    option_or (first_fault 1 (misfits kind form)) (option_or (first_fault 2 (misnamed sig told.nodes kind form)) (first_fault 3 (misnumbered sig told kind form)))

abbrev pub kind_reading : Declarations → Told → Kind → Sexpr → Result Told AnswerFault
kind_reading sig told kind form = told_unless (kind_fault sig told kind form) (with_form sig told kind form)

-- what is told with the form, of a problem with so many constraints, or its first bad node: the form itself where it may
-- not come
abbrev pub form_reading : Declarations → ℕ → Told → Sexpr → Result Told AnswerFault
form_reading sig constraints told form =
    option_map_or (λ kind. kind_reading sig (record told { due = due_after kind }) kind form)
    (kind_due told.due (nat_lt (length told.derived) constraints) form) (Err (fault 1 (place_of form)))

-- an answer that forms stand for, with the terms where the program's has numbers of a bank
pub record TreeAnswer : Type 0 where
  pub term : Tree
  pub size : ℕ
  pub nodes : List Tree
  pub steps : List TreeStep
  pub derived : List ℕ

abbrev pub answer_with : Told → Option Tree → Option ℕ → Option TreeAnswer
answer_with told (Some t) (Some n) = Some (record { term = t; size = n; nodes = told.nodes; steps = told.steps; derived = told.derived })
answer_with told _ _ = None

-- the answer that is told, where the term, its size and a step for each constraint are there
abbrev pub whole_answer : ℕ → Told → Option TreeAnswer
whole_answer constraints told = if length told.derived == constraints then answer_with told told.term told.size else None

abbrev pub reading_then : (Told → Result TreeAnswer AnswerFault) → Result Told AnswerFault → Result TreeAnswer AnswerFault
reading_then next (Ok told) = next told
reading_then next (Err bad) = Err bad

-- the answer that the forms stand for after what is told, or the first bad node, which is the end of the file where
-- something is missing
abbrev pub reading : Declarations → ℕ → ℕ → List Sexpr → Told → Result TreeAnswer AnswerFault
reading sig constraints end [] told = ok_or (whole_answer constraints told) (fault 1 end)
reading sig constraints end (form ∷ forms) told = reading_then (reading sig constraints end forms) (form_reading sig constraints told form)
