-- The line of a step is taken.
use Rattle.std.proofs.Common.{◌≡◌, ℕ, ◌<◌, ◌^◌, Bool, true, nat_lt, List, [], ◌∷◌, ◌++◌, map, drop, length, get_or, slice_get, Some, is_none, Ok, All, codes, unwrap_or, refl, ap, ap₂, ◌∙◌}
use Rattle.std.specs.List.{flat_map}
use Rattle.std.proofs.lemmas.List.{get_or_default}
use Rattle.sig_core.specs.declared.ids.RelId.{RelId}
use Rattle.sig_core.specs.declared.signature.Relation.{Relation}
use Rattle.sig_core.specs.declared.value.Value.{Value}
use Rattle.sig_core.specs.Signatures.{Declarations}
use Rattle.sig_core.specs.WellFormed.{IsWellFormed}
use Rattle.sexpr_core.specs.declared.form.Sexpr.{Sexpr}
use Rattle.sexpr_core.specs.Access.{item_of, parts_of}
use Rattle.term_core.specs.declared.tree.Tree.{Tree}
use Rattle.term_core.specs.Banks.{leaf}
use Rattle.deriv_core.specs.Steps.{TreeStep}
use Rattle.answer_core.specs.declared.kinds.Due.{Due}
use Rattle.answer_core.specs.declared.kinds.Due.TheVariants as due
use Rattle.answer_core.specs.declared.kinds.Kind.TheVariants as kind
use Rattle.answer_core.specs.AnswerText.{place_of_node, relation_name}
use Rattle.answer_core.specs.Names.{relation_at}
use Rattle.answer_core.specs.Numbers.{number_of, text_of}
use Rattle.answer_core.specs.Readings.{form_reading, node_at, not_in_range, step_of, value_of}
use Rattle.answer_core.specs.Shapes.{bad_if, item_misfits, may_come, number_misfits, value_misfits}
use Rattle.answer_laws.proofs.Forms.{Same, begins, ends, is_list, item_is, list, parts_are, symbol}
use Rattle.answer_laws.proofs.Lines.{IsStepFit, step_form}
use Rattle.answer_laws.proofs.Literals.{literal_form, number_form, number_is, text_is}
use Rattle.answer_laws.proofs.Names.{relation_found}
use Rattle.answer_laws.proofs.Places.{IsNodeAt}
use Rattle.answer_laws.proofs.Taken.{at_steps, is_named, kind_is, named_step, taken}
use Rattle.answer_laws.proofs.Values.{are_below, is_below, is_the_number, list_shaped, number_shaped, numbers_are, numbers_shaped, symbol_shaped, values_read}

-- the items of the form of a step
record IsStepForm (form : Sexpr) (n : ℕ) (name : List ℕ) (place rule : ℕ) (values : List Value) (premises : List ℕ) : Type 0 where
  first : Sexpr
  number : Sexpr
  relation : Sexpr
  node : Sexpr
  rule_form : Sexpr
  value_list : Sexpr
  premise_list : Sexpr
  parts : parts_of form ≡ first ∷ number ∷ relation ∷ node ∷ rule_form ∷ value_list ∷ premise_list ∷ []
  named : text_of (item_of 0 form) ≡ codes "step"
  same_number : Same number (number_form n)
  same_relation : Same relation (symbol name)
  same_node : Same node (number_form place)
  same_rule : Same rule_form (number_form rule)
  same_values : Same value_list (list (map literal_form values))
  same_premises : Same premise_list (list (map number_form premises))

is_step_form : (form : Sexpr) (n : ℕ) (name : List ℕ) (place rule : ℕ) (values : List Value) (premises : List ℕ)
    → Same form (list (symbol (codes "step") ∷ number_form n ∷ symbol name ∷ number_form place ∷ number_form rule ∷ list (map literal_form values) ∷ list (map number_form premises) ∷ []))
    → IsStepForm form n name place rule values premises
is_step_form form n name place rule values premises e =
    let f : Sexpr = list (map literal_form values) in
    let g : Sexpr = list (map number_form premises) in
    let whole = is_named form (codes "step") (number_form n ∷ symbol name ∷ number_form place ∷ number_form rule ∷ f ∷ g ∷ []) e in
    let a = begins whole.tail (number_form n) (symbol name ∷ number_form place ∷ number_form rule ∷ f ∷ g ∷ []) whole.same in
    let b = begins a.tail (symbol name) (number_form place ∷ number_form rule ∷ f ∷ g ∷ []) a.same_tail in
    let c = begins b.tail (number_form place) (number_form rule ∷ f ∷ g ∷ []) b.same_tail in
    let d = begins c.tail (number_form rule) (f ∷ g ∷ []) c.same_tail in
    let v = begins d.tail f (g ∷ []) d.same_tail in
    let p = begins v.tail g [] v.same_tail in
    let last = ends p.tail p.same_tail in
    let two : d.tail ≡ v.head ∷ p.head ∷ [] = v.is ∙ ap (λ t. v.head ∷ t) (p.is ∙ ap (λ t. p.head ∷ t) last) in
    let four : b.tail ≡ c.head ∷ d.head ∷ v.head ∷ p.head ∷ [] = c.is ∙ ap (λ t. c.head ∷ t) (d.is ∙ ap (λ t. d.head ∷ t) two) in
    let six : whole.tail ≡ a.head ∷ b.head ∷ c.head ∷ d.head ∷ v.head ∷ p.head ∷ [] = a.is ∙ ap (λ t. a.head ∷ t) (b.is ∙ ap (λ t. b.head ∷ t) four) in record {
      first = whole.head;
      number = a.head;
      relation = b.head;
      node = c.head;
      rule_form = d.head;
      value_list = v.head;
      premise_list = p.head;
      parts = whole.parts ∙ ap (λ t. whole.head ∷ t) six;
      named = whole.named;
      same_number = a.same_head;
      same_relation = b.same_head;
      same_node = c.same_head;
      same_rule = d.same_head;
      same_values = v.same_head;
      same_premises = p.same_head;
    }

abbrev made : RelId → Tree → ℕ → List Value → List ℕ → TreeStep
made relation node rule values premises = record { relation = relation; node = node; rule = rule; values = values; premises = premises }

same_parts : (r q : RelId) (t u : Tree) (m n : ℕ) (vs ws : List Value) (ps qs : List ℕ) → r ≡ q → t ≡ u → m ≡ n → vs ≡ ws → ps ≡ qs → made r t m vs ps ≡ made q u n ws qs
same_parts r q t u m n vs ws ps qs e f g h i =
    ap₂ (λ x y. made x y m vs ps) e f ∙ ap₂ (λ x y. made q u x y ps) g h ∙ ap (λ x. made q u n ws x) i

-- the step can be printed: its relation is known, its node listed, and its numbers are below 2 ^ 64
pub record IsTold (sig : Declarations) (nodes : List Tree) (s : TreeStep) : Type 0 where
  pub relation : Relation
  pub known : slice_get sig.relations s.relation.0 ≡ Some relation
  pub node_at : IsNodeAt nodes s.node (place_of_node nodes s.node)
  pub rule : s.rule < 2 ^ 64
  pub premises : All (λ p. p < 2 ^ 64) s.premises
  pub fit : IsStepFit nodes s

-- a form that is that of the next step, places aside, is taken
pub step_taken : (sig : Declarations) (constraints : ℕ) (root : Tree) (nodes : List Tree) (now : Due) (done : List TreeStep) (s : TreeStep) (form : Sexpr) → IsWellFormed sig → IsTold sig nodes s → length done < 10 ^ 64
    → ((room : Bool) → may_come now room kind.Step ≡ true) → Same form (step_form sig nodes (length done) s)
    → form_reading sig constraints (at_steps now root nodes done) form ≡ Ok (at_steps due.Steps root nodes (done ++ s ∷ []))
step_taken sig constraints root nodes now done s form formed told few may e =
    let name : List ℕ = relation_name (slice_get sig.relations s.relation.0) in
    let place : ℕ = place_of_node nodes s.node in
    let items = is_step_form form (length done) name place s.rule s.values s.premises e in
    let all : List Sexpr = items.first ∷ items.number ∷ items.relation ∷ items.node ∷ items.rule_form ∷ items.value_list ∷ items.premise_list ∷ [] in
    let parts = items.parts in
    let at_number : item_of 1 form ≡ items.number = item_is form all 1 items.number parts refl in
    let at_relation : item_of 2 form ≡ items.relation = item_is form all 2 items.relation parts refl in
    let at_node : item_of 3 form ≡ items.node = item_is form all 3 items.node parts refl in
    let at_rule : item_of 4 form ≡ items.rule_form = item_is form all 4 items.rule_form parts refl in
    let at_values : item_of 5 form ≡ items.value_list = item_is form all 5 items.value_list parts refl in
    let at_premises : item_of 6 form ≡ items.premise_list = item_is form all 6 items.premise_list parts refl in
    let values = is_list items.value_list (map literal_form s.values) items.same_values in
    let premises = is_list items.premise_list (map number_form s.premises) items.same_premises in
    let value_parts : parts_of (item_of 5 form) ≡ values.items = ap parts_of at_values ∙ parts_are items.value_list values.items values.is in
    let premise_parts : parts_of (item_of 6 form) ≡ premises.items = ap parts_of at_premises ∙ parts_are items.premise_list premises.items premises.is in
    let read = values_read values.items s.values told.fit.values values.same in
    let own : number_of (item_of 1 form) ≡ length done = ap number_of at_number ∙ number_is items.number (length done) few items.same_number in
    let node_number : number_of (item_of 3 form) ≡ place = ap number_of at_node ∙ number_is items.node place told.fit.place items.same_node in
    let rule_number : number_of (item_of 4 form) ≡ s.rule = ap number_of at_rule ∙ number_is items.rule_form s.rule told.fit.rule items.same_rule in
    let premise_numbers : map number_of (parts_of (item_of 6 form)) ≡ s.premises = ap (map number_of) premise_parts ∙ numbers_are premises.items s.premises told.fit.premises premises.same in
    let text : text_of (item_of 2 form) ≡ told.relation.name = ap text_of at_relation ∙ text_is items.relation name items.same_relation ∙ ap relation_name told.known in
    let found = relation_found sig formed (item_of 2 form) s.relation told.relation told.known text in
    let node_is : node_at nodes (item_of 3 form) ≡ s.node = ap (λ n. get_or nodes n leaf) node_number ∙ get_or_default nodes place leaf s.node told.node_at.within ∙ told.node_at.is in
    let is : step_of sig nodes form ≡ s =
    same_parts (unwrap_or (relation_at sig (item_of 2 form)) (record { 0 = 0 })) s.relation (node_at nodes (item_of 3 form)) s.node (number_of (item_of 4 form)) s.rule (map value_of (parts_of (item_of 5 form))) s.values (map number_of (parts_of (item_of 6 form))) s.premises
    (ap (λ o. unwrap_or o (record { 0 = 0 })) found) node_is rule_number (ap (map value_of) value_parts ∙ read.are) premise_numbers in
    taken sig constraints (at_steps now root nodes done) form kind.Step
    (kind_is form now (nat_lt 0 constraints) kind.Step (codes "step") 7 items.named named_step (ap length parts) (may (nat_lt 0 constraints)) refl)
    (ap (λ ps. item_misfits kind.Step 1 (drop 1 ps)) parts
    ∙ six_nothings (number_shaped items.number (length done) items.same_number) (symbol_shaped items.relation name items.same_relation) (number_shaped items.node place items.same_node) (number_shaped items.rule_form s.rule items.same_rule)
    (list_shaped value_misfits items.value_list values.items values.is read.shaped) (list_shaped number_misfits items.premise_list premises.items premises.is (numbers_shaped premises.items s.premises premises.same)))
    (ap (λ o. bad_if (is_none o) (item_of 2 form)) found)
    (ap₂ (λ x y. x ++ y) (is_the_number (length done) (item_of 1 form) own)
    (ap₂ (λ x y. x ++ y) (is_below (length nodes) (item_of 3 form) place node_number told.node_at.within)
    (ap₂ (λ x y. x ++ y) (is_below (2 ^ 64) (item_of 4 form) s.rule rule_number told.rule)
    (ap₂ (λ x y. x ++ y) (ap (flat_map not_in_range) value_parts ∙ read.in_range) (are_below (2 ^ 64) (parts_of (item_of 6 form)) s.premises premise_numbers told.premises)))))
    (at_steps due.Steps root nodes (done ++ s ∷ []))
    (ap (λ x. at_steps due.Steps root nodes (done ++ x ∷ [])) is)
  where
    six_nothings : {a b c d f g : List ℕ} → a ≡ [] → b ≡ [] → c ≡ [] → d ≡ [] → f ≡ [] → g ≡ [] → a ++ (b ++ (c ++ (d ++ (f ++ (g ++ []))))) ≡ []
    six_nothings p q r s t u = ap₂ (λ x y. x ++ y) p (ap₂ (λ x y. x ++ y) q (ap₂ (λ x y. x ++ y) r (ap₂ (λ x y. x ++ y) s (ap₂ (λ x y. x ++ (y ++ [])) t u))))
