-- The line of a node is taken.
use Rattle.std.proofs.Common.{◌≡◌, ℕ, suc, ◌+◌, ◌<◌, ◌≤◌, ◌^◌, true, false, nat_lt, nat_le, ◌&&◌, ◌==◌, List, [], ◌∷◌, ◌++◌, map, drop, length, slice_get, slice_index_or, Option, Some, None, option_and_then, Ok, All, codes, if◌then◌else◌, refl, sym, ap, ap₂, subst, ◌∙◌, arith}
use Rattle.std.specs.List.{flat_map, AllZip}
use lib.Pointwise.{pointwise}
use Rattle.std.proofs.lemmas.Bool.Decides.{nat_tests}
use Rattle.std.proofs.lemmas.List.Elements.{All-cons, All-head, All-nil, All-tail}
use Rattle.std.proofs.lemmas.Option.{slice_get-get_or}
use Rattle.sig_core.specs.declared.ids.TypeId.{TypeId}
use Rattle.sig_core.specs.Signatures.{Declarations}
use Rattle.sig_core.specs.WellFormed.{IsWellFormed}
use Rattle.sexpr_core.specs.declared.form.Sexpr.{Sexpr}
use Rattle.sexpr_core.specs.Access.{item_of, parts_of}
use Rattle.term_core.specs.declared.tree.Tree.{Tree}
use Rattle.term_core.specs.Banks.{leaf}
use Rattle.term_core.specs.Terms.{con_of, kids_of, node, size, type_of}
use Rattle.term_core.specs.Typings.{HasType}
use Rattle.term_core.proofs.Parts.{rolled}
use Rattle.term_core.proofs.Typing.{made_of, type_is_owner}
use Rattle.answer_core.specs.declared.kinds.Due.TheVariants as due
use Rattle.answer_core.specs.declared.kinds.Kind.TheVariants as kind
use Rattle.answer_core.specs.declared.kinds.Role.TheVariants as role
use Rattle.answer_core.specs.AnswerText.{constructor_name, place_of_node}
use Rattle.answer_core.specs.Names.{args_in, args_of, fits_type, kid_type}
use Rattle.answer_core.specs.Numbers.{number_of, text_of}
use Rattle.answer_core.specs.Readings.{constructor_or, form_reading, node_of, not_below}
use Rattle.answer_core.specs.Shapes.{item_misfits, number_misfits, role_misfits}
use Rattle.answer_core.proofs.Nodes.{node_good}
use Rattle.answer_laws.proofs.Forms.{AreSame, Same, begins, item_is, list, symbol}
use Rattle.answer_laws.proofs.Lines.{node_form}
use Rattle.answer_laws.proofs.Literals.{number_form, number_is, text_is}
use Rattle.answer_laws.proofs.Names.{constructor_found, head_good, type_fits}
use Rattle.answer_laws.proofs.Places.{IsEarlier}
use Rattle.answer_laws.proofs.Taken.{at_nodes, is_named, kind_is, named_node, taken}
use Rattle.answer_laws.proofs.Values.{Fit, are_below, by_number, is_the_number, number_shaped, numbers_are, numbers_shaped, symbol_shaped}

-- the items of the form of a node
record IsNodeForm (form : Sexpr) (n : ℕ) (name : List ℕ) (places : List ℕ) : Type 0 where
  number : Sexpr
  head : Sexpr
  kids : List Sexpr
  first : Sexpr
  parts : parts_of form ≡ first ∷ number ∷ head ∷ kids
  named : text_of (item_of 0 form) ≡ codes "node"
  same_number : Same number (number_form n)
  same_head : Same head (symbol name)
  same_kids : AreSame kids (map number_form places)

is_node_form : (form : Sexpr) (n : ℕ) (name : List ℕ) (places : List ℕ) → Same form (list (symbol (codes "node") ∷ number_form n ∷ symbol name ∷ map number_form places)) → IsNodeForm form n name places
is_node_form form n name places e =
    let whole = is_named form (codes "node") (number_form n ∷ symbol name ∷ map number_form places) e in
    let front = begins whole.tail (number_form n) (symbol name ∷ map number_form places) whole.same in
    let later = begins front.tail (symbol name) (map number_form places) front.same_tail in record {
      number = front.head;
      head = later.head;
      kids = later.tail;
      first = whole.head;
      parts = whole.parts ∙ ap (λ t. whole.head ∷ t) (front.is ∙ ap (λ t. front.head ∷ t) later.is);
      named = whole.named;
      same_number = front.same_head;
      same_head = later.same_head;
      same_kids = later.same_tail;
    }

-- in the places of the children stand numbers
kids_shaped : (k : ℕ) (forms : List Sexpr) → 3 ≤ k → item_misfits kind.Node k forms ≡ flat_map number_misfits forms
kids_shaped k [] h = refl
kids_shaped k (form ∷ forms) h =
    let other : (k == 2) ≡ false = grind (arith, nat_tests) in
    ap₂ (λ b rest. role_misfits (if b then role.Symbol else role.Number) form ++ rest) other (kids_shaped (suc k) forms (omega (arith, h)))

module _ (sig : Declarations) (nodes earlier : List Tree) where
  abbrev Earlier : Tree → Type 0
  Earlier kid = IsEarlier nodes earlier kid

  pub places_below : (kids : List Tree) → All Earlier kids → (bound : ℕ) → length earlier ≤ bound → All (λ n. n < bound) (map (place_of_node nodes) kids)
  places_below [] all bound h = All-nil (λ n. n < bound)
  places_below (kid ∷ kids) all bound h =
      let first = All-head Earlier kid kids all in
      All-cons (λ n. n < bound) (place_of_node nodes kid) (map (place_of_node nodes) kids) (omega (arith, first.below, h)) (places_below kids (All-tail Earlier kid kids all) bound h)

  kids_are : (kids : List Tree) → All Earlier kids → map (λ n. slice_index_or earlier n leaf) (map (place_of_node nodes) kids) ≡ kids
  kids_are [] all = refl
  kids_are (kid ∷ kids) all = ap₂ (λ t ts. t ∷ ts) ((All-head Earlier kid kids all).is leaf) (kids_are kids (All-tail Earlier kid kids all))

  -- the type of the earlier node with this number
  abbrev type_at : ℕ → ℕ → Option TypeId
  type_at own n = if nat_lt n own then option_and_then (type_of sig) (slice_get earlier n) else None

  type_is : (own : ℕ) (kid : Tree) (u : TypeId) → own ≡ length earlier → Earlier kid → HasType sig u kid → type_at own (place_of_node nodes kid) ≡ Some u
  type_is own kid u e at typed =
      let n : ℕ = place_of_node nodes kid in
      let test : nat_lt n own ≡ true = let h = at.below in grind (arith, nat_tests) in
      let there : slice_get earlier n ≡ Some kid = slice_get-get_or earlier n kid at.below ∙ ap Some (at.is kid) in
      ap₂ (λ b o. if b then option_and_then (type_of sig) o else None) test there ∙ type_is_owner sig u kid typed

  types_fit : (own : ℕ) → own ≡ length earlier → (kids : List Tree) → All Earlier kids → (args : List TypeId) → AllZip (λ kid u. HasType sig u kid) kids args
      → pointwise fits_type args (map (type_at own) (map (place_of_node nodes) kids)) ≡ true
  types_fit own e [] all [] typed = refl
  types_fit own e [] all (u ∷ args) typed = absurd typed
  types_fit own e (kid ∷ kids) all [] typed = absurd typed
  types_fit own e (kid ∷ kids) all (u ∷ args) typed =
      ap₂ (λ o b. fits_type u o && b) (type_is own kid u e (All-head Earlier kid kids all) typed.0) (types_fit own e kids (All-tail Earlier kid kids all) args typed.1) ∙ ap (λ b. b && true) (type_fits u)

-- a form that is that of the next node, places aside, is taken
pub node_taken : (sig : Declarations) (constraints : ℕ) (root : Tree) (nodes earlier : List Tree) (t : Tree) (u : TypeId) (form : Sexpr) → IsWellFormed sig → HasType sig u t → size t < 2 ^ 32
    → length earlier < 10 ^ 64 → All (IsEarlier nodes earlier) (kids_of t) → Same form (node_form sig nodes (length earlier) t) → form_reading sig constraints (at_nodes root earlier) form ≡ Ok (at_nodes root (earlier ++ t ∷ []))
node_taken sig constraints root nodes earlier t u form formed typed small few all e =
    let con = con_of t in
    let kids : List Tree = kids_of t in
    let places : List ℕ = map (place_of_node nodes) kids in
    let made = made_of sig u con kids (subst (HasType sig u) (sym (rolled t)) typed) in
    let items = is_node_form form (length earlier) (constructor_name (slice_get sig.constructors con.0)) places e in
    let parts = items.parts in
    let at_number : item_of 1 form ≡ items.number = item_is form (items.first ∷ items.number ∷ items.head ∷ items.kids) 1 items.number parts refl in
    let at_head : item_of 2 form ≡ items.head = item_is form (items.first ∷ items.number ∷ items.head ∷ items.kids) 2 items.head parts refl in
    let rest : drop 3 (parts_of form) ≡ items.kids = ap (drop 3) parts in
    let own : number_of (item_of 1 form) ≡ length earlier = ap number_of at_number ∙ number_is items.number (length earlier) few items.same_number in
    let fit : Fit places = places_below sig nodes earlier kids all (10 ^ 64) (omega (arith, few)) in
    let numbers : map number_of (drop 3 (parts_of form)) ≡ places = ap (map number_of) rest ∙ numbers_are items.kids places fit items.same_kids in
    let name : text_of (item_of 2 form) ≡ made.constructor.name = ap text_of at_head ∙ text_is items.head (constructor_name (slice_get sig.constructors con.0)) items.same_head ∙ ap constructor_name made.stands in
    let found = constructor_found sig formed (item_of 2 form) con made.constructor made.stands name in
    let is : node_of sig earlier form ≡ t =
    ap₂ (λ o ks. node (constructor_or o) ks) found (by_number (λ n. slice_index_or earlier n leaf) (drop 3 (parts_of form)) places numbers ∙ kids_are sig nodes earlier kids all) ∙ rolled t in
    let types : map (kid_type sig earlier (number_of (item_of 1 form))) (drop 3 (parts_of form)) ≡ map (type_at sig nodes earlier (number_of (item_of 1 form))) places =
    by_number (type_at sig nodes earlier (number_of (item_of 1 form))) (drop 3 (parts_of form)) places numbers in
    let fits : pointwise fits_type (args_of sig con) (map (kid_type sig earlier (number_of (item_of 1 form))) (drop 3 (parts_of form))) ≡ true =
    ap₂ (λ xs ts. pointwise fits_type xs ts) (ap args_in made.stands) types ∙ types_fit sig nodes earlier (number_of (item_of 1 form)) own kids all made.constructor.args made.children in
    let below : flat_map (not_below (number_of (item_of 1 form))) (drop 3 (parts_of form)) ≡ [] =
    ap (λ n. flat_map (not_below n) (drop 3 (parts_of form))) own ∙ are_below (length earlier) (drop 3 (parts_of form)) places numbers (places_below sig nodes earlier kids all (length earlier) (omega arith)) in
    taken sig constraints (at_nodes root earlier) form kind.Node
    (kind_is form due.Nodes (nat_lt 0 constraints) kind.Node (codes "node") (3 + length items.kids) items.named named_node (ap length parts ∙ omega arith) refl (at_least_three (length items.kids)))
    (ap (λ ps. item_misfits kind.Node 1 (drop 1 ps)) parts
    ∙ ap₂ (λ x y. x ++ y) (number_shaped items.number (length earlier) items.same_number)
    (ap₂ (λ x y. x ++ y) (symbol_shaped items.head (constructor_name (slice_get sig.constructors con.0)) items.same_head) (kids_shaped 3 items.kids (omega arith) ∙ numbers_shaped items.kids places items.same_kids)))
    (head_good sig form (item_of 2 form) (map (kid_type sig earlier (number_of (item_of 1 form))) (drop 3 (parts_of form))) con found fits)
    (node_good sig earlier form (is_the_number (length earlier) (item_of 1 form) own) below (omega (arith, small, ap size is)))
    (at_nodes root (earlier ++ t ∷ []))
    (ap (λ x. at_nodes root (earlier ++ x ∷ [])) is)
  where
    at_least_three : (n : ℕ) → nat_le 3 (3 + n) ≡ true
    at_least_three n = grind (arith, nat_tests)
