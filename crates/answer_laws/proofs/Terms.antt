-- The text of a term is read as the term.
use Rattle.std.proofs.Common.{◌≡◌, ℕ, zero, suc, ◌≤◌, true, ◌&&◌, List, [], ◌∷◌, ◌++◌, map, drop, slice_get, Option, Some, is_none, All, option_and_then, unwrap_or, if◌then◌else◌, refl, sym, ap, ap₂, subst, ◌∙◌, arith}
use Rattle.std.specs.List.{flat_map, AllZip}
use lib.Pointwise.{pointwise}
use Rattle.std.proofs.lemmas.List.Elements.{All-head, All-tail}
use Rattle.sig_core.specs.declared.ids.ConId.{ConId}
use Rattle.sig_core.specs.declared.ids.TypeId.{TypeId}
use Rattle.sig_core.specs.Signatures.{Declarations, owner_in, owner_of}
use Rattle.sig_core.specs.WellFormed.{IsWellFormed}
use Rattle.sexpr_core.specs.declared.form.Sexpr.{Sexpr}
use Rattle.sexpr_core.specs.Access.{place_of, symbol_of, item_of, others_of, parts_of}
use Rattle.sexpr_core.specs.Respelling.{placeless, AreSpellable}
use Rattle.sexpr_core.specs.Respelling as able
use Rattle.sexpr_core.specs.Sizes.{greatest}
use Rattle.sexpr_core.specs.Spelling.{atom}
use Rattle.sexpr_core.specs.Texts.{form_text}
use Rattle.term_core.specs.declared.tree.Tree.{Tree}
use Rattle.term_core.specs.declared.tree.Tree.TheOpen.{Tree-F}
use Rattle.term_core.specs.declared.tree.Tree.TheFolds.{fold-Tree, fold-roll-Tree}
use Rattle.term_core.specs.Terms.{node}
use Rattle.term_core.specs.Typings.{HasType, IsMadeOf}
use Rattle.term_core.proofs.Induction.{by_children}
use Rattle.term_core.proofs.Typing.{made_of}
use Rattle.answer_core.specs.AnswerText.{application_text, constructor_name, constructor_text, list_text, term_text, term_text_step}
use Rattle.answer_core.specs.Names.{args_in, args_of, constructor_at, fits_type, term_misnamed, term_type}
use Rattle.answer_core.specs.Numbers.{text_of}
use Rattle.answer_core.specs.Readings.{constructor_or, term_of}
use Rattle.answer_core.specs.Shapes.{bad_if, term_misfits}
use Rattle.answer_laws.specs.Names.{nesting_over, term_nesting, term_nesting_step, HasSpelledNames}
use Rattle.answer_laws.proofs.Forms.{AreSame, Same, begins, ends, is_list, item_is, list, no_items, no_parts, parts_are, symbol}
use Rattle.answer_laws.proofs.Literals.{symbol_is}
use Rattle.answer_laws.proofs.Names.{constructor_found, constructor_spelled, head_good, type_fits}
use Rattle.answer_laws.specs.Laws.{TermsReadBack}
use Rattle.answer_laws.proofs.Spellable.{spells_one}
use Rattle.answer_laws.proofs.Texts.{list_written, symbol_written}

term_text-node : (sig : Declarations) (con : ConId) (kids : List Tree) → term_text sig (node con kids) ≡ application_text (constructor_text sig con) (map (term_text sig) kids)
term_text-node sig con kids = fold-roll-Tree (List ℕ) (term_text_step sig) (record { con = con; kids = kids })

abbrev pub constructor_form : Declarations → ConId → Sexpr
constructor_form sig con = symbol (constructor_name (slice_get sig.constructors con.0))

abbrev pub application_form : Sexpr → List Sexpr → Sexpr
application_form head [] = head
application_form head (kid ∷ kids) = list (head ∷ kid ∷ kids)

abbrev pub term_form_step : Declarations → Tree-F Sexpr → Sexpr
term_form_step sig t = application_form (constructor_form sig t.con) t.kids

-- the form that is printed for a term
abbrev pub term_form : Declarations → Tree → Sexpr
term_form sig = fold-Tree Sexpr (term_form_step sig)

pub term_form-node : (sig : Declarations) (con : ConId) (kids : List Tree) → term_form sig (node con kids) ≡ application_form (constructor_form sig con) (map (term_form sig) kids)
term_form-node sig con kids = fold-roll-Tree Sexpr (term_form_step sig) (record { con = con; kids = kids })

pub nesting-node : (con : ConId) (kids : List Tree) → term_nesting (node con kids) ≡ nesting_over (map term_nesting kids)
nesting-node con kids = fold-roll-Tree ℕ term_nesting_step (record { con = con; kids = kids })

-- its text

texts_of : (sig : Declarations) (kids : List Tree) → All (λ t. form_text (term_form sig t) ≡ term_text sig t) kids → map form_text (map (term_form sig) kids) ≡ map (term_text sig) kids
texts_of sig [] all = refl
texts_of sig (kid ∷ kids) all =
    let P : Tree → Type 0 = λ t. form_text (term_form sig t) ≡ term_text sig t in
    ap₂ (λ t ts. t ∷ ts) (All-head P kid kids all) (texts_of sig kids (All-tail P kid kids all))

spaced_texts : (forms : List Sexpr) → list_text form_text forms ≡ list_text (λ text. text) (map form_text forms)
spaced_texts [] = refl
spaced_texts (form ∷ forms) = ap (λ ws. 40 ∷ ((form_text form ++ ws) ++ 41 ∷ [])) (go forms) where
  go : (fs : List Sexpr) → flat_map (λ y. 32 ∷ form_text y) fs ≡ flat_map (λ t. 32 ∷ t) (map form_text fs)
  go [] = refl
  go (f ∷ fs) = ap (λ ws. (32 ∷ form_text f) ++ ws) (go fs)

application_written : (sig : Declarations) (con : ConId) (forms : List Sexpr) → form_text (application_form (constructor_form sig con) forms) ≡ application_text (constructor_text sig con) (map form_text forms)
application_written sig con [] = symbol_written (constructor_name (slice_get sig.constructors con.0))
application_written sig con (form ∷ forms) =
    list_written (constructor_form sig con ∷ form ∷ forms) ∙ spaced_texts (constructor_form sig con ∷ form ∷ forms)
    ∙ ap (λ head. list_text (λ text. text) (head ∷ map form_text (form ∷ forms))) (symbol_written (constructor_name (slice_get sig.constructors con.0)))

pub term_written : (sig : Declarations) (t : Tree) → form_text (term_form sig t) ≡ term_text sig t
term_written sig = by_children (λ t. form_text (term_form sig t) ≡ term_text sig t) step where
  step : (con : ConId) (kids : List Tree) → All (λ t. form_text (term_form sig t) ≡ term_text sig t) kids → form_text (term_form sig (node con kids)) ≡ term_text sig (node con kids)
  step con kids all =
      ap form_text (term_form-node sig con kids) ∙ application_written sig con (map (term_form sig) kids)
      ∙ ap (application_text (constructor_text sig con)) (texts_of sig kids all) ∙ sym (term_text-node sig con kids)

-- it can be spelled

module _ (sig : Declarations) (names : HasSpelledNames sig) where
  abbrev Spelled : Tree → Type 0
  Spelled t = (depth : ℕ) (forms : List Sexpr) → term_nesting t ≤ depth → AreSpellable depth forms → AreSpellable depth (term_form sig t ∷ forms)

  kids_spelled : (kids : List Tree) → All Spelled kids → (depth : ℕ) → greatest (map term_nesting kids) ≤ depth → AreSpellable depth (map (term_form sig) kids)
  kids_spelled [] all depth h = able.nothing depth
  kids_spelled (kid ∷ kids) all depth h =
      All-head Spelled kid kids all depth (map (term_form sig) kids) (omega (arith, h)) (kids_spelled kids (All-tail Spelled kid kids all) depth (omega (arith, h)))

  head_spelled : (depth : ℕ) (con : ConId) (forms : List Sexpr) → AreSpellable depth forms → AreSpellable depth (constructor_form sig con ∷ forms)
  head_spelled depth con forms more = able.symbol depth (atom 0 (constructor_name (slice_get sig.constructors con.0))) forms (constructor_spelled sig names con) more

  application_spelled : (con : ConId) (kids : List Tree) → All Spelled kids → (depth : ℕ) (forms : List Sexpr) → nesting_over (map term_nesting kids) ≤ depth → AreSpellable depth forms
      → AreSpellable depth (application_form (constructor_form sig con) (map (term_form sig) kids) ∷ forms)
  application_spelled con [] all depth forms h more = head_spelled depth con forms more
  application_spelled con (kid ∷ kids) all zero forms h more = absurd (omega (arith, h))
  application_spelled con (kid ∷ kids) all (suc depth) forms h more =
      able.list depth (record { place = 0; items = constructor_form sig con ∷ map (term_form sig) (kid ∷ kids) }) forms
      (head_spelled depth con (map (term_form sig) (kid ∷ kids)) (kids_spelled (kid ∷ kids) all depth (omega (arith, h)))) more

  pub term_spelled : (t : Tree) → Spelled t
  term_spelled = by_children Spelled (λ con kids all depth forms h more.
      subst (λ f. AreSpellable depth (f ∷ forms)) (sym (term_form-node sig con kids)) (application_spelled con kids all depth forms (omega (arith, h, nesting-node con kids)) more))

-- it is read

-- a form with this name for its head and these children
record IsApplication (form : Sexpr) (name : List ℕ) (kids : List Sexpr) : Type 0 where
  head : symbol_of (item_of 0 form) ≡ Some name
  children : AreSame (others_of form) kids
  bare : kids ≡ [] → symbol_of form ≡ Some name

application : (form : Sexpr) (name : List ℕ) (kids : List Sexpr) → Same form (application_form (symbol name) kids) → IsApplication form name kids
application form name [] e =
    let none = no_parts form (no_items form name e) in
    let self : item_of 0 form ≡ form = ap (λ ps. unwrap_or (slice_get ps 0) form) none in record {
      head = ap symbol_of self ∙ symbol_is form name e;
      children = ap (λ ps. map placeless (drop 1 ps)) none;
      bare = λ nil. symbol_is form name e;
    }
application form name (kid ∷ kids) e =
    let whole = is_list form (symbol name ∷ kid ∷ kids) e in
    let first = begins whole.items (symbol name) (kid ∷ kids) whole.same in
    let parts : parts_of form ≡ first.head ∷ first.tail = parts_are form whole.items whole.is ∙ first.is in record {
      head = ap symbol_of (item_is form (first.head ∷ first.tail) 0 first.head parts refl) ∙ symbol_is first.head name first.same_head;
      children = ap (λ ps. map placeless (drop 1 ps)) parts ∙ first.same_tail;
      bare = λ nil. absurd (cc);
    }

-- the form is read as the term, when it is followed to this depth
pub record IsTermRead (sig : Declarations) (depth : ℕ) (form : Sexpr) (t : Tree) (u : TypeId) : Type 0 where
  pub shape : term_misfits depth form ≡ []
  pub names : term_misnamed depth sig form ≡ []
  pub is : term_of depth sig form ≡ t
  pub type : term_type sig form ≡ Some u

record AreRead (sig : Declarations) (depth : ℕ) (forms : List Sexpr) (kids : List Tree) (args : List TypeId) : Type 0 where
  shape : flat_map (term_misfits depth) forms ≡ []
  names : flat_map (term_misnamed depth sig) forms ≡ []
  are : map (term_of depth sig) forms ≡ kids
  fit : pointwise fits_type args (map (term_type sig) forms) ≡ true

-- the head of a form of a term
record HasHead (sig : Declarations) (form : Sexpr) (con : ConId) (args : List TypeId) (u : TypeId) : Type 0 where
  found : constructor_at sig (item_of 0 form) ≡ Some con
  args_are : args_of sig con ≡ args
  type : term_type sig form ≡ Some u

-- one list more deep, or none
misfits_zero : (form : Sexpr) (name : List ℕ) → symbol_of form ≡ Some name → term_misfits 0 form ≡ []
unfolding term_misfits
misfits_zero form name e = ap (λ o. bad_if (is_none o) form) e

misfits_suc : (depth : ℕ) (form : Sexpr) (name : List ℕ) → symbol_of (item_of 0 form) ≡ Some name → flat_map (term_misfits depth) (others_of form) ≡ [] → term_misfits (suc depth) form ≡ []
unfolding term_misfits
misfits_suc depth form name e rest = ap (λ o. if is_none o then place_of form ∷ [] else flat_map (term_misfits depth) (others_of form)) e ∙ rest

module _ (sig : Declarations) (form : Sexpr) (con : ConId) (args : List TypeId) (u : TypeId) (head : HasHead sig form con args u) where
  fits : (types : List (Option TypeId)) → pointwise fits_type args types ≡ true → pointwise fits_type (args_of sig con) types ≡ true
  fits types e = ap (λ ts. pointwise fits_type ts types) head.args_are ∙ e

  misnamed_zero : pointwise fits_type args (map (term_type sig) (others_of form)) ≡ true → term_misnamed 0 sig form ≡ []
  unfolding term_misnamed
  misnamed_zero e = head_good sig form (item_of 0 form) (map (term_type sig) (others_of form)) con head.found (fits (map (term_type sig) (others_of form)) e)

  misnamed_suc : (depth : ℕ) → pointwise fits_type args (map (term_type sig) (others_of form)) ≡ true → flat_map (term_misnamed depth sig) (others_of form) ≡ [] → term_misnamed (suc depth) sig form ≡ []
  unfolding term_misnamed
  misnamed_suc depth e rest =
      ap₂ (λ x y. x ++ y) (head_good sig form (item_of 0 form) (map (term_type sig) (others_of form)) con head.found (fits (map (term_type sig) (others_of form)) e)) rest

  term_zero : term_of 0 sig form ≡ node con []
  unfolding term_of
  term_zero = ap (λ o. node (constructor_or o) []) head.found

  term_suc : (depth : ℕ) (kids : List Tree) → map (term_of depth sig) (others_of form) ≡ kids → term_of (suc depth) sig form ≡ node con kids
  unfolding term_of
  term_suc depth kids e = ap₂ (λ o ks. node (constructor_or o) ks) head.found e

module _ (sig : Declarations) (formed : IsWellFormed sig) where
  abbrev Read : Tree → Type 0
  Read t = (u : TypeId) → HasType sig u t → (depth : ℕ) → term_nesting t ≤ depth → (form : Sexpr) → Same form (term_form sig t) → IsTermRead sig depth form t u

  kids_read : (kids : List Tree) → All Read kids → (args : List TypeId) → AllZip (λ kid u. HasType sig u kid) kids args → (depth : ℕ) → greatest (map term_nesting kids) ≤ depth
      → (forms : List Sexpr) → AreSame forms (map (term_form sig) kids) → AreRead sig depth forms kids args
  kids_read [] all [] typed depth h forms same =
      let none = ends forms same in record {
        shape = ap (flat_map (term_misfits depth)) none;
        names = ap (flat_map (term_misnamed depth sig)) none;
        are = ap (map (term_of depth sig)) none;
        fit = ap (λ fs. pointwise fits_type [] (map (term_type sig) fs)) none;
      }
  kids_read [] all (u ∷ args) typed depth h forms same = absurd typed
  kids_read (kid ∷ kids) all [] typed depth h forms same = absurd typed
  kids_read (kid ∷ kids) all (u ∷ args) typed depth h forms same =
      let first = begins forms (term_form sig kid) (map (term_form sig) kids) same in
      let here = All-head Read kid kids all u typed.0 depth (omega (arith, h)) first.head first.same_head in
      let rest = kids_read kids (All-tail Read kid kids all) args typed.1 depth (omega (arith, h)) first.tail first.same_tail in record {
        shape = ap (flat_map (term_misfits depth)) first.is ∙ ap₂ (λ x y. x ++ y) here.shape rest.shape;
        names = ap (flat_map (term_misnamed depth sig)) first.is ∙ ap₂ (λ x y. x ++ y) here.names rest.names;
        are = ap (map (term_of depth sig)) first.is ∙ ap₂ (λ t ts. t ∷ ts) here.is rest.are;
        fit =
            ap (λ fs. pointwise fits_type (u ∷ args) (map (term_type sig) fs)) first.is
            ∙ ap₂ (λ o b. fits_type u o && b) here.type rest.fit ∙ ap (λ b. b && true) (type_fits u);
      }

  has_head : (form : Sexpr) (con : ConId) (kids : List Tree) (u : TypeId) (made : IsMadeOf sig u con kids) → symbol_of (item_of 0 form) ≡ Some (constructor_name (slice_get sig.constructors con.0)) → HasHead sig form con made.constructor.args u
  has_head form con kids u made e =
      let name : text_of (item_of 0 form) ≡ made.constructor.name = ap (λ o. unwrap_or o []) e ∙ ap constructor_name made.stands in
      let found = constructor_found sig formed (item_of 0 form) con made.constructor made.stands name in record {
        found = found;
        args_are = ap args_in made.stands;
        type = ap (option_and_then (owner_of sig)) found ∙ ap owner_in made.stands ∙ ap Some made.owner;
      }

  node_read : (con : ConId) (kids : List Tree) → All Read kids → (u : TypeId) (made : IsMadeOf sig u con kids) (depth : ℕ) → nesting_over (map term_nesting kids) ≤ depth
      → (form : Sexpr) → IsApplication form (constructor_name (slice_get sig.constructors con.0)) (map (term_form sig) kids) → IsTermRead sig depth form (node con kids) u
  node_read con [] all u made zero h form app =
      let head = has_head form con [] u made app.head in
      let below = kids_read [] all made.constructor.args made.children zero (omega arith) (others_of form) app.children in record {
        shape = misfits_zero form (constructor_name (slice_get sig.constructors con.0)) (app.bare refl);
        names = misnamed_zero sig form con made.constructor.args u head below.fit;
        is = term_zero sig form con made.constructor.args u head;
        type = head.type;
      }
  node_read con (kid ∷ kids) all u made zero h form app = absurd (omega (arith, h))
  node_read con kids all u made (suc depth) h form app =
      let head = has_head form con kids u made app.head in
      let below = kids_read kids all made.constructor.args made.children depth (inside kids depth h) (others_of form) app.children in record {
        shape = misfits_suc depth form (constructor_name (slice_get sig.constructors con.0)) app.head below.shape;
        names = misnamed_suc sig form con made.constructor.args u head depth below.fit below.names;
        is = term_suc sig form con made.constructor.args u head depth kids below.are;
        type = head.type;
      }
    where
      inside : (ks : List Tree) (d : ℕ) → nesting_over (map term_nesting ks) ≤ suc d → greatest (map term_nesting ks) ≤ d
      inside [] d h = omega arith
      inside (k ∷ ks) d h = omega (arith, h)

  -- a form that is that of a term of the signature, places aside, is read as the term
  pub term_read : (t : Tree) → Read t
  term_read = by_children Read (λ con kids all u h depth nest form same.
      node_read con kids all u (made_of sig u con kids h) depth (omega (arith, nest, nesting-node con kids)) form
      (application form (constructor_name (slice_get sig.constructors con.0)) (map (term_form sig) kids) (same ∙ ap placeless (term_form-node sig con kids))))

pub terms_read_back : TermsReadBack
terms_read_back sig formed names u t h nest =
    spells_one (term_form sig t) _ _ (term_written sig t) (term_spelled sig names t 200 [] nest (able.nothing 200))
    (λ other same. let read = term_read sig formed t u h 200 nest other same in record { shape = read.shape; names = read.names; is = read.is })
