-- Each form of an answer that is printed is taken.
use Rattle.std.proofs.Common.{◌≡◌, ℕ, ◌<◌, ◌≤◌, ◌^◌, Bool, true, false, not, nat_lt, ◌&&◌, List, [], ◌∷◌, ◌++◌, drop, length, Some, None, option_and_then, Ok, codes, refl, ap, ap₂, ◌∙◌, arith}
use Rattle.std.specs.Option.{option_map_or}
use Rattle.std.proofs.lemmas.Bool.Decides.{nat_tests}
use Rattle.sig_core.specs.declared.ids.TypeId.{TypeId}
use Rattle.sig_core.specs.Names.{same_name}
use Rattle.sig_core.specs.Signatures.{Declarations}
use Rattle.sig_core.specs.WellFormed.{IsWellFormed}
use Rattle.sexpr_core.specs.declared.form.Sexpr.{Sexpr}
use Rattle.sexpr_core.specs.Access.{item_of, others_of, parts_of}
use Rattle.term_core.specs.declared.tree.Tree.{Tree}
use Rattle.term_core.specs.Terms.{size}
use Rattle.term_core.specs.Typings.{HasType}
use Rattle.deriv_core.specs.Steps.{TreeStep}
use Rattle.answer_core.specs.declared.kinds.Due.{Due}
use Rattle.answer_core.specs.declared.kinds.Due.TheVariants as due
use Rattle.answer_core.specs.declared.kinds.Kind.{Kind}
use Rattle.answer_core.specs.declared.kinds.Kind.TheVariants as kind
use Rattle.answer_core.specs.Names.{misnamed, term_misnamed}
use Rattle.answer_core.specs.Numbers.{number_of, text_of}
use Rattle.answer_core.specs.Readings.{Told, first_fault, form_reading, misnumbered, nothing, term_of, told_unless, with_form}
use Rattle.answer_core.specs.Shapes.{bad_if, deepest, due_after, first, has_items, item_misfits, kind_due, kind_named, may_come, misfits, role_in, role_misfits, when}
use Rattle.answer_core.proofs.Passes.{good_names}
use Rattle.answer_laws.specs.Names.{term_nesting}
use Rattle.answer_laws.proofs.Forms.{AreSame, Same, begins, ends, is_list, item_is, list, numeral, parts_are, same_numeral, numeral_of-numeral, symbol}
use Rattle.answer_laws.proofs.Lines.{derived_form, size_form, term_line_form, version_form}
use Rattle.answer_laws.proofs.Literals.{number_form, number_is, text_is}
use Rattle.answer_laws.proofs.Terms.{term_form, term_read}
use Rattle.answer_laws.proofs.Values.{is_below, is_the_number, number_shaped}

-- the items of a form that begins with a name
pub record IsNamed (form : Sexpr) (name : List ℕ) (others : List Sexpr) : Type 0 where
  pub head : Sexpr
  pub tail : List Sexpr
  pub parts : parts_of form ≡ head ∷ tail
  pub named : text_of (item_of 0 form) ≡ name
  pub same : AreSame tail others

pub is_named : (form : Sexpr) (name : List ℕ) (others : List Sexpr) → Same form (list (symbol name ∷ others)) → IsNamed form name others
is_named form name others e =
    let whole = is_list form (symbol name ∷ others) e in
    let front = begins whole.items (symbol name) others whole.same in
    let parts : parts_of form ≡ front.head ∷ front.tail = parts_are form whole.items whole.is ∙ front.is in record {
      head = front.head;
      tail = front.tail;
      parts = parts;
      named = ap text_of (item_is form (front.head ∷ front.tail) 0 front.head parts refl) ∙ text_is front.head name front.same_head;
      same = front.same_tail;
    }

pub kind_is : (form : Sexpr) (now : Due) (room : Bool) (k : Kind) (name : List ℕ) (n : ℕ) → text_of (item_of 0 form) ≡ name → kind_named name ≡ Some k → length (parts_of form) ≡ n → may_come now room k ≡ true → has_items k n ≡ true
    → kind_due now room form ≡ Some k
kind_is form now room k name n named known count may has =
    ap (λ t. option_and_then (λ k. when (may_come now room k && has_items k (length (parts_of form))) k) (kind_named t)) named
    ∙ ap (λ o. option_and_then (λ k. when (may_come now room k && has_items k (length (parts_of form))) k) o) known
    ∙ ap (λ m. when (may_come now room k && has_items k m) k) count
    ∙ ap₂ (λ a b. when (a && b) k) may has

named_answer : kind_named (codes "answer") ≡ Some kind.Answer
unfolding kind_named
named_answer = refl

named_term : kind_named (codes "term") ≡ Some kind.Term
unfolding kind_named
named_term = refl

named_size : kind_named (codes "size") ≡ Some kind.Size
unfolding kind_named
named_size = refl

pub named_node : kind_named (codes "node") ≡ Some kind.Node
unfolding kind_named
named_node = refl

pub named_step : kind_named (codes "step") ≡ Some kind.Step
unfolding kind_named
named_step = refl

named_derived : kind_named (codes "derived") ≡ Some kind.Derived
unfolding kind_named
named_derived = refl

module _ (sig : Declarations) (constraints : ℕ) (told : Told) (form : Sexpr) (k : Kind) where
  abbrev pub next : Told
  next = record told { due = due_after k }

  -- a form that no test finds bad is taken
  pub taken : kind_due told.due (nat_lt (length told.derived) constraints) form ≡ Some k → misfits k form ≡ [] → misnamed sig told.nodes k form ≡ [] → misnumbered sig next k form ≡ []
      → (after : Told) → with_form sig next k form ≡ after → form_reading sig constraints told form ≡ Ok after
  taken come shape names numbers after is =
      good_names sig constraints told form k come (ap first shape) (ap first names)
      ∙ ap (λ ps. told_unless (first_fault 3 ps) (with_form sig next k form)) numbers ∙ ap Ok is

-- what is told once the nodes come, then the steps, then the constraints' steps

abbrev pub at_nodes : Tree → List Tree → Told
at_nodes t nodes = record { due = due.Nodes; term = Some t; size = Some (size t); nodes = nodes; steps = []; derived = [] }

abbrev pub at_steps : Due → Tree → List Tree → List TreeStep → Told
at_steps now t nodes steps = record { due = now; term = Some t; size = Some (size t); nodes = nodes; steps = steps; derived = [] }

abbrev pub at_derived : Due → Tree → List Tree → List TreeStep → List ℕ → Told
at_derived now t nodes steps derived = record { due = now; term = Some t; size = Some (size t); nodes = nodes; steps = steps; derived = derived }

abbrev pub after_version : Told
after_version = record { due = due.Term; term = None; size = None; nodes = []; steps = []; derived = [] }

abbrev pub after_term : Tree → Told
after_term t = record { due = due.Size; term = Some t; size = None; nodes = []; steps = []; derived = [] }

-- a form with one item after its name
record HasOne (form : Sexpr) (name : List ℕ) (other : Sexpr) : Type 0 where
  item : Sexpr
  named : text_of (item_of 0 form) ≡ name
  count : length (parts_of form) ≡ 2
  others : others_of form ≡ item ∷ []
  at : item_of 1 form ≡ item
  same : Same item other

has_one : (form : Sexpr) (name : List ℕ) (other : Sexpr) → Same form (list (symbol name ∷ other ∷ [])) → HasOne form name other
has_one form name other e =
    let whole = is_named form name (other ∷ []) e in
    let front = begins whole.tail other [] whole.same in
    let last = ends front.tail front.same_tail in
    let parts : parts_of form ≡ whole.head ∷ front.head ∷ [] = whole.parts ∙ ap (λ t. whole.head ∷ t) (front.is ∙ ap (λ t. front.head ∷ t) last) in record {
      item = front.head;
      named = whole.named;
      count = ap length parts;
      others = ap (drop 1) parts;
      at = item_is form (whole.head ∷ front.head ∷ []) 1 front.head parts refl;
      same = front.same_head;
    }

nothing_more : (a : List ℕ) → a ≡ [] → a ++ [] ≡ []
nothing_more a e = ap (λ x. x ++ []) e

one_shaped : (k : Kind) (form item : Sexpr) → others_of form ≡ item ∷ [] → role_misfits (role_in k 1) item ≡ [] → misfits k form ≡ []
one_shaped k form item e good = ap (item_misfits k 1) e ∙ nothing_more (role_misfits (role_in k 1) item) good

pub version_taken : (sig : Declarations) (constraints : ℕ) (form : Sexpr) → Same form version_form → form_reading sig constraints nothing form ≡ Ok after_version
version_taken sig constraints form e =
    let one = has_one form (codes "answer") (numeral (codes "1")) e in
    let digits = same_numeral one.item (numeral (codes "1")) one.same ∙ numeral_of-numeral (codes "1") in
    let version : role_misfits (role_in kind.Answer 1) one.item ≡ [] = ap (λ o. bad_if (not (option_map_or (same_name (codes "1")) o false)) one.item) digits in
    taken sig constraints nothing form kind.Answer
    (kind_is form due.Answer (nat_lt 0 constraints) kind.Answer (codes "answer") 2 one.named named_answer one.count refl refl)
    (one_shaped kind.Answer form one.item one.others version) refl refl after_version refl

pub term_taken : (sig : Declarations) (constraints : ℕ) (form : Sexpr) (u : TypeId) (t : Tree) → IsWellFormed sig → HasType sig u t → term_nesting t ≤ 200 → Same form (term_line_form sig t)
    → form_reading sig constraints after_version form ≡ Ok (after_term t)
term_taken sig constraints form u t formed typed nest e =
    let one = has_one form (codes "term") (term_form sig t) e in
    let read = term_read sig formed t u typed 200 nest one.item one.same in
    taken sig constraints after_version form kind.Term
    (kind_is form due.Term (nat_lt 0 constraints) kind.Term (codes "term") 2 one.named named_term one.count refl refl)
    (one_shaped kind.Term form one.item one.others read.shape)
    (ap (term_misnamed deepest sig) one.at ∙ read.names) refl (after_term t)
    (ap (λ x. record (after_term t) { term = Some x }) (ap (term_of deepest sig) one.at ∙ read.is))

pub size_taken : (sig : Declarations) (constraints : ℕ) (form : Sexpr) (t : Tree) → size t < 2 ^ 64 → Same form (size_form (size t)) → form_reading sig constraints (after_term t) form ≡ Ok (at_nodes t [])
size_taken sig constraints form t small e =
    let one = has_one form (codes "size") (number_form (size t)) e in
    let number : number_of (item_of 1 form) ≡ size t = ap number_of one.at ∙ number_is one.item (size t) (omega (arith, small)) one.same in
    taken sig constraints (after_term t) form kind.Size
    (kind_is form due.Size (nat_lt 0 constraints) kind.Size (codes "size") 2 one.named named_size one.count refl refl)
    (one_shaped kind.Size form one.item one.others (number_shaped one.item (size t) one.same)) refl
    (is_below (2 ^ 64) (item_of 1 form) (size t) number small) (at_nodes t [])
    (ap (λ n. record (at_nodes t []) { size = Some n }) number)

-- a form with two items after its name
record HasTwo (form : Sexpr) (name : List ℕ) (other another : Sexpr) : Type 0 where
  item : Sexpr
  second : Sexpr
  named : text_of (item_of 0 form) ≡ name
  count : length (parts_of form) ≡ 3
  others : others_of form ≡ item ∷ second ∷ []
  at : item_of 1 form ≡ item
  at_second : item_of 2 form ≡ second
  same : Same item other
  same_second : Same second another

has_two : (form : Sexpr) (name : List ℕ) (other another : Sexpr) → Same form (list (symbol name ∷ other ∷ another ∷ [])) → HasTwo form name other another
has_two form name other another e =
    let whole = is_named form name (other ∷ another ∷ []) e in
    let front = begins whole.tail other (another ∷ []) whole.same in
    let later = begins front.tail another [] front.same_tail in
    let last = ends later.tail later.same_tail in
    let items : whole.tail ≡ front.head ∷ later.head ∷ [] = front.is ∙ ap (λ t. front.head ∷ t) (later.is ∙ ap (λ t. later.head ∷ t) last) in
    let parts : parts_of form ≡ whole.head ∷ front.head ∷ later.head ∷ [] = whole.parts ∙ ap (λ t. whole.head ∷ t) items in record {
      item = front.head;
      second = later.head;
      named = whole.named;
      count = ap length parts;
      others = ap (drop 1) parts;
      at = item_is form (whole.head ∷ front.head ∷ later.head ∷ []) 1 front.head parts refl;
      at_second = item_is form (whole.head ∷ front.head ∷ later.head ∷ []) 2 later.head parts refl;
      same = front.same_head;
      same_second = later.same_head;
    }

pub derived_taken : (sig : Declarations) (constraints : ℕ) (now : Due) (t : Tree) (nodes : List Tree) (steps : List TreeStep) (done : List ℕ) (step : ℕ) (form : Sexpr)
    → may_come now true kind.Derived ≡ true → length done < constraints → length done < 10 ^ 64 → step < length steps → step < 10 ^ 64 → Same form (derived_form (length done) step)
    → form_reading sig constraints (at_derived now t nodes steps done) form ≡ Ok (at_derived due.Derived t nodes steps (done ++ step ∷ []))
derived_taken sig constraints now t nodes steps done step form may room small there fit e =
    let two = has_two form (codes "derived") (number_form (length done)) (number_form step) e in
    let free : nat_lt (length done) constraints ≡ true = grind (arith, nat_tests) in
    let own : number_of (item_of 1 form) ≡ length done = ap number_of two.at ∙ number_is two.item (length done) small two.same in
    let number : number_of (item_of 2 form) ≡ step = ap number_of two.at_second ∙ number_is two.second step fit two.same_second in
    taken sig constraints (at_derived now t nodes steps done) form kind.Derived
    (kind_is form now (nat_lt (length done) constraints) kind.Derived (codes "derived") 3 two.named named_derived two.count (ap (λ r. may_come now r kind.Derived) free ∙ may) refl)
    (ap (item_misfits kind.Derived 1) two.others ∙ ap₂ (λ x y. x ++ (y ++ [])) (number_shaped two.item (length done) two.same) (number_shaped two.second step two.same_second)) refl
    (ap₂ (λ x y. x ++ y) (is_the_number (length done) (item_of 1 form) own) (is_below (length steps) (item_of 2 form) step number there))
    (at_derived due.Derived t nodes steps (done ++ step ∷ []))
    (ap (λ n. at_derived due.Derived t nodes steps (done ++ n ∷ [])) number)
