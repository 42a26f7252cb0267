-- A command of right shape has as many groups as names.
use Rattle.std.proofs.Common.{◌≡◌, ◌<◌, ℕ, Bool, true, false, not, ◌&&◌, Option, Some, None, is_some, unwrap_or, Ok, Err, List, [], ◌∷◌, map, length, slice_get, refl, sym, ap, subst, ◌∙◌, arith}
use Rattle.std.specs.Prelude.{nat_eq, nat_lt, option_and_then}
use Rattle.std.specs.Option.{option_map_or}
use Rattle.std.proofs.lemmas.Bool.{eqb-true}
use Rattle.sexpr_core.specs.declared.form.Sexpr.{Sexpr}
use Rattle.sexpr_core.specs.Access.{items_of, symbol_of, parts_of}
use Rattle.syntax_core.specs.declared.commands.Head.{Head}
use Rattle.syntax_core.specs.declared.commands.Head.TheVariants as head
use Rattle.syntax_core.specs.declared.fault.Fault.{Fault}
use Rattle.syntax_core.specs.declared.roles.Due.{Due}
use Rattle.syntax_core.specs.declared.roles.Due.TheVariants.{One}
use Rattle.syntax_core.specs.declared.roles.Role.TheVariants as role
use Rattle.syntax_core.specs.Commands.{head_named}
use Rattle.syntax_core.specs.Misfits.{misfits}
use Rattle.syntax_core.specs.Roles.{are_as_long, are_of_command, due_in, due_in_command, fits, head_of, is_command, is_list_of}
use Rattle.syntax_core.specs.Shapes.{HasShape, refusal}
use Rattle.syntax_core.specs.Shapes.HasShape.{has_shape}
use Rattle.syntax_core.specs.Syntax.{items_at}
use Rattle.syntax_core.proofs.MisfitLaws.{no_misfits}
use Rattle.name_core.specs.Faults.{first, shapes}
use Rattle.name_core.specs.States.{State}
use Rattle.state_core.specs.Taking.{IsJudgedAs}
use Rattle.state_core.specs.Commands.{command_fault, faults_in, judged_from, word_fault}
use Rattle.state_core.proofs.Outcomes.{fault_is}

-- The word of a command without faults.

fault_by : (k h : Head) (o : Option Fault) → option_map_or Err o (Ok k) ≡ Ok h → Some k ≡ Some h
fault_by k h None e = cc
fault_by k h (Some fault) e = absurd (cc)

head_by : (s : State) (h : Head) (form : Sexpr) (fault : Fault) (o : Option Head) →
    option_map_or (λ k. option_map_or Err (command_fault s k form) (Ok k)) o (Err fault) ≡ Ok h → o ≡ Some h
head_by s h form fault None e = absurd (cc)
head_by s h form fault (Some k) e = fault_by k h (command_fault s k form) e

name_by : (s : State) (h : Head) (form word : Sexpr) (o : Option (List ℕ)) → word_fault s form word o ≡ Ok h → option_map_or head_named o None ≡ Some h
name_by s h form word None e = absurd (cc)
name_by s h form word (Some name) e = head_by s h form _ (head_named name) e

word_by : (s : State) (h : Head) (form : Sexpr) (o : Option (List Sexpr)) → judged_from s form (option_and_then (λ items. slice_get items 0) o) ≡ Ok h →
    head_of (unwrap_or o []) ≡ Some h
word_by s h form None e = absurd (cc)
word_by s h form (Some []) e = absurd (cc)
word_by s h form (Some (word ∷ others)) e = name_by s h form word (symbol_of word) e

word_is : (s : State) (h : Head) (form : Sexpr) → IsJudgedAs s h form → first (shapes form) ≡ None → first (faults_in s h form) ≡ None → head_of (parts_of form) ≡ Some h
word_is s h form j shape fine =
    let none : command_fault s h form ≡ None = fault_is s h form None None j.come shape fine in
    word_by s h form (items_of form) (j.is ∙ ap (λ (o : Option Fault). option_map_or Err o (Ok h)) none)

-- The shape of a form without misfits.

no_places : (places : List ℕ) → first (map (λ place. refusal place 10) places) ≡ None → places ≡ []
no_places [] h = refl
no_places (place ∷ places) h = absurd (cc)

shaped : (form : Sexpr) → first (shapes form) ≡ None → HasShape (One role.Command) form
shaped form h = (no_misfits (One role.Command) form).1 (no_places (misfits (One role.Command) form) h)

fit : {due : Due} {form : Sexpr} → HasShape due form → fits due form ≡ true
fit (has_shape due form is each) = is

each_fits : {due : Due} {form : Sexpr} → HasShape due form → (k : ℕ) (item : Sexpr) → slice_get (parts_of form) k ≡ Some item → fits (due_in due (parts_of form) k) item ≡ true
each_fits (has_shape due form is each) k item at = fit (each k item at)

command_by : (o : Option (List Sexpr)) → option_map_or is_command o false ≡ true → is_command (unwrap_or o []) ≡ true
command_by None e = absurd (cc)
command_by (Some items) e = e

-- what stands after the word
abbrev AfterWord : Head → List Sexpr → Type 0
AfterWord h parts = (word : Sexpr) × (others : List Sexpr) × (parts ≡ word ∷ others) × (are_of_command h others ≡ true)

after_word : (h : Head) (parts : List Sexpr) → is_command parts ≡ true → head_of parts ≡ Some h → AfterWord h parts
after_word h [] is e = absurd (cc)
after_word h (word ∷ others) is e =
    (word, others, refl, sym (ap (λ (o : Option Head). option_map_or (λ k. are_of_command k others) o false) e) ∙ is)

-- The items of a command, each of what is due in its place.

-- a command of this word
pub record IsOfWord (h : Head) (form : Sexpr) : Type 0 where
  pub others : AfterWord h (parts_of form)
  pub items : (k : ℕ) (item : Sexpr) → slice_get (parts_of form) k ≡ Some item → fits (due_in_command (Some h) k) item ≡ true

pub of_word : (s : State) (h : Head) (form : Sexpr) → IsJudgedAs s h form → first (shapes form) ≡ None → first (faults_in s h form) ≡ None → IsOfWord h form
of_word s h form j shape fine =
    let word : head_of (parts_of form) ≡ Some h = word_is s h form j shape fine in
    let whole : HasShape (One role.Command) form = shaped form shape in
    record {
      others = after_word h (parts_of form) (command_by (items_of form) (fit whole)) word;
      items = λ k item at. subst (λ (o : Option Head). fits (due_in_command o k) item ≡ true) word (each_fits whole k item at);
    }

-- Lists of the same length.

count_by : (o p : Option (List Sexpr)) → is_some o ≡ true → is_some p ≡ true →
    option_map_or (λ n. option_map_or (nat_eq n) (option_map_or (λ items. Some (length items)) p None) true) (option_map_or (λ items. Some (length items)) o None) true ≡ true →
    length (unwrap_or p []) ≡ length (unwrap_or o [])
count_by None p f g e = absurd (cc)
count_by (Some xs) None f g e = absurd (cc)
count_by (Some xs) (Some ys) f g e = sym (eqb-true (length xs) (length ys) e)

as_long : (one other : Sexpr) → is_some (items_of one) ≡ true → is_some (items_of other) ≡ true → are_as_long one other ≡ true → length (parts_of other) ≡ length (parts_of one)
as_long one other f g e = count_by (items_of one) (items_of other) f g e

-- Types.

-- each item of the parts is of what is due in its place
abbrev ItemsFit : Head → List Sexpr → Type 0
ItemsFit h parts = (k : ℕ) (item : Sexpr) → slice_get parts k ≡ Some item → fits (due_in_command (Some h) k) item ≡ true

-- the items of the list in this place
abbrev items_in_place : ℕ → List Sexpr → List Sexpr
items_in_place k parts = option_map_or parts_of (slice_get parts k) []

terms_by : (word : Sexpr) (others : List Sexpr) → are_of_command head.DeclareTermTypes others ≡ true → ItemsFit head.DeclareTermTypes (word ∷ others) →
    length (items_in_place 2 (word ∷ others)) ≡ length (items_in_place 1 (word ∷ others))
terms_by word [] is items = absurd (cc)
terms_by word (names ∷ []) is items = absurd (cc)
terms_by word (names ∷ groups ∷ []) is items = as_long names groups (items 1 names refl) (items 2 groups refl) is
terms_by word (names ∷ groups ∷ other ∷ more) is items = absurd (cc)

-- as many groups of constructors as types
pub as_many_types : (form : Sexpr) → IsOfWord head.DeclareTermTypes form → length (items_at 2 form) ≡ length (items_at 1 form)
as_many_types form h =
    let o = h.others in
    let P : List Sexpr → Type 0 = λ parts. length (items_in_place 2 parts) ≡ length (items_in_place 1 parts) in
    subst P (sym o.2) (terms_by o.0 o.1 o.3 (subst (ItemsFit head.DeclareTermTypes) o.2 h.items))

-- Grammars.

-- a `synth-fun` with a grammar has a nonterminal, and as many groups
pub record HasGroups (nonterminals groups : List Sexpr) : Type 0 where
  pub as_many : length groups ≡ length nonterminals
  pub some : 0 < length nonterminals

filled_by : (o : Option (List Sexpr)) → is_some o ≡ true → option_map_or (λ items. nat_eq (length items) 0) o false ≡ false → 0 < length (unwrap_or o [])
filled_by None f e = absurd (cc)
filled_by (Some []) f e = absurd (cc)
filled_by (Some (x ∷ xs)) f e = omega arith

both : (a b : Bool) → (not a && b) ≡ true → (a ≡ false) × (b ≡ true)
both true b h = absurd (cc)
both false b h = (refl, h)

groups_by : (word : Sexpr) (others : List Sexpr) → are_of_command head.SynthFun others ≡ true → ItemsFit head.SynthFun (word ∷ others) →
    nat_lt 4 (length (word ∷ others)) ≡ true → HasGroups (items_in_place 4 (word ∷ others)) (items_in_place 5 (word ∷ others))
groups_by word [] is items long = absurd (cc)
groups_by word (name ∷ []) is items long = absurd (cc)
groups_by word (name ∷ params ∷ []) is items long = absurd (cc)
groups_by word (name ∷ params ∷ type ∷ []) is items long = absurd (cc)
groups_by word (name ∷ params ∷ type ∷ names ∷ []) is items long = absurd (cc)
groups_by word (name ∷ params ∷ type ∷ names ∷ groups ∷ []) is items long =
    let two : (is_list_of 0 names ≡ false) × (are_as_long names groups ≡ true) = both (is_list_of 0 names) (are_as_long names groups) is in
    record {
      as_many = as_long names groups (items 4 names refl) (items 5 groups refl) two.1;
      some = filled_by (items_of names) (items 4 names refl) two.0;
    }
groups_by word (name ∷ params ∷ type ∷ names ∷ groups ∷ other ∷ more) is items long = absurd (cc)

pub has_groups : (form : Sexpr) → IsOfWord head.SynthFun form → nat_lt 4 (length (parts_of form)) ≡ true → HasGroups (items_at 4 form) (items_at 5 form)
has_groups form h long =
    let o = h.others in
    let P : List Sexpr → Type 0 = λ parts. HasGroups (items_in_place 4 parts) (items_in_place 5 parts) in
    let L : List Sexpr → Type 0 = λ parts. nat_lt 4 (length parts) ≡ true in
    subst P (sym o.2) (groups_by o.0 o.1 o.3 (subst (ItemsFit head.SynthFun) o.2 h.items) (subst L o.2 long))
