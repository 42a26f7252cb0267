-- The forms of an answer, in which order they come, and the nodes of a form that are of the wrong kind.
use Rattle.std.specs.Prelude.{ℕ, zero, suc, Bool, true, false, not, ◌&&◌, ◌==◌, nat_le, if◌then◌else◌, Option, Some, None, is_none, option_and_then, List, [], ◌∷◌, ◌++◌, length, codes}
use Rattle.std.specs.List.{flat_map}
use Rattle.sig_core.specs.Names.{same_name}
use Rattle.sexpr_core.specs.declared.form.Sexpr.{Sexpr}
use Rattle.sexpr_core.specs.Access.{place_of, symbol_of, numeral_of, items_of, is_numeral, parts_of, item_of, others_of}
use Rattle.answer_core.specs.declared.kinds.Kind.{Kind}
use Rattle.answer_core.specs.declared.kinds.Kind.TheVariants as kind
use Rattle.answer_core.specs.declared.kinds.Due.{Due}
use Rattle.answer_core.specs.declared.kinds.Due.TheVariants as due
use Rattle.answer_core.specs.declared.kinds.Role.{Role}
use Rattle.answer_core.specs.declared.kinds.Role.TheVariants as role
use Rattle.answer_core.specs.Numbers.{text_of, is_literal}

abbrev pub when : {X : Type 0} → Bool → X → Option X
when b x = if b then Some x else None

-- the offset of the form, if it is bad
abbrev pub bad_if : Bool → Sexpr → List ℕ
bad_if bad form = if bad then place_of form ∷ [] else []

-- the first of the bad nodes
abbrev pub first : List ℕ → Option ℕ
first [] = None
first (place ∷ places) = Some place

unfoldable pub kind_named : List ℕ → Option Kind
kind_named name =
    if same_name (codes "answer") name then Some kind.Answer
    else if same_name (codes "term") name then Some kind.Term
    else if same_name (codes "size") name then Some kind.Size
    else if same_name (codes "node") name then Some kind.Node
    else if same_name (codes "step") name then Some kind.Step
    else if same_name (codes "derived") name then Some kind.Derived
    else None

-- how many items a form of the kind has, its name included
abbrev pub has_items : Kind → ℕ → Bool
has_items kind.Answer n = n == 2
has_items kind.Term n = n == 2
has_items kind.Size n = n == 2
has_items kind.Node n = nat_le 3 n
has_items kind.Step n = n == 7
has_items kind.Derived n = n == 3

-- whether the kind may come, where there is room for one more `derived` or not
abbrev pub may_come : Due → Bool → Kind → Bool
may_come due.Answer room kind.Answer = true
may_come due.Term room kind.Term = true
may_come due.Size room kind.Size = true
may_come due.Nodes room kind.Node = true
may_come due.Nodes room kind.Step = true
may_come due.Nodes room kind.Derived = room
may_come due.Steps room kind.Step = true
may_come due.Steps room kind.Derived = room
may_come due.Derived room kind.Derived = room
may_come _ room _ = false

-- what may come after a form of the kind
abbrev pub due_after : Kind → Due
due_after kind.Answer = due.Term
due_after kind.Term = due.Size
due_after kind.Size = due.Nodes
due_after kind.Node = due.Nodes
due_after kind.Step = due.Steps
due_after kind.Derived = due.Derived

-- the kind of the form, if it may come
abbrev pub kind_due : Due → Bool → Sexpr → Option Kind
kind_due due room form =
    option_and_then (λ kind. when (may_come due room kind && has_items kind (length (parts_of form))) kind) (kind_named (text_of (item_of 0 form)))

-- what is due in a place of a form of the kind; its name stands in place 0
abbrev pub role_in : Kind → ℕ → Role
role_in kind.Answer k = role.Version
role_in kind.Term k = role.Term
role_in kind.Size k = role.Number
role_in kind.Node k = if k == 2 then role.Symbol else role.Number
role_in kind.Step k = if k == 2 then role.Symbol else if k == 5 then role.Values else if k == 6 then role.Numbers else role.Number
role_in kind.Derived k = role.Number

-- lists nest at most so deep
abbrev pub deepest : ℕ
deepest = 200

-- the nodes of a term that are neither a symbol nor a list that begins with one; it is followed to this depth of lists
unfoldable pub term_misfits : ℕ → Sexpr → List ℕ
term_misfits zero form = bad_if (is_none (symbol_of form)) form
term_misfits (suc depth) form =
    if is_none (symbol_of (item_of 0 form)) then place_of form ∷ [] else flat_map (term_misfits depth) (others_of form)

unfoldable pub value_misfits : Sexpr → List ℕ
value_misfits form = bad_if (not (is_literal form)) form

unfoldable pub number_misfits : Sexpr → List ℕ
number_misfits form = bad_if (is_none (numeral_of form)) form

-- of a list that must be one
unfoldable pub list_misfits : (Sexpr → List ℕ) → Sexpr → List ℕ
list_misfits misfits form = if is_none (items_of form) then place_of form ∷ [] else flat_map misfits (parts_of form)

-- the bad nodes of what stands where the role is due
abbrev pub role_misfits : Role → Sexpr → List ℕ
role_misfits role.Version form = bad_if (not (is_numeral (codes "1") form)) form
role_misfits role.Number form = number_misfits form
role_misfits role.Symbol form = bad_if (is_none (symbol_of form)) form
role_misfits role.Term form = term_misfits deepest form
role_misfits role.Values form = list_misfits value_misfits form
role_misfits role.Numbers form = list_misfits number_misfits form

-- of items, of which the first stands in place k
abbrev pub item_misfits : Kind → ℕ → List Sexpr → List ℕ
item_misfits kind k [] = []
item_misfits kind k (item ∷ items) = role_misfits (role_in kind k) item ++ item_misfits kind (suc k) items

-- the nodes of the wrong kind in a form of the kind
abbrev pub misfits : Kind → Sexpr → List ℕ
misfits kind form = item_misfits kind 1 (others_of form)
