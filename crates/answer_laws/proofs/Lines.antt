-- The forms of the lines of an answer: their texts, and that they can be spelled.
use Rattle.std.proofs.Common.{◌≡◌, ℕ, suc, ◌<◌, ◌≤◌, ◌^◌, true, List, [], ◌∷◌, ◌++◌, map, length, slice_get, codes, decimal, refl, sym, ap, ap₂, subst, ◌∙◌, arith, append_assoc, append-nil}
use Rattle.std.specs.List.{flat_map, list_all}
use Rattle.std.proofs.lemmas.Bool.{and_parts}
use Rattle.std.proofs.lemmas.List.{length_push}
use Rattle.std.proofs.lemmas.List.Elements.{All-head, All-tail}
use Rattle.sig_core.specs.declared.ids.RelId.{RelId}
use Rattle.sig_core.specs.declared.value.Value.{Value}
use Rattle.sig_core.specs.Signatures.{Declarations}
use Rattle.sig_core.specs.Texts.{literal_text}
use Rattle.sig_core.specs.Values.{is_value}
use Rattle.sexpr_core.specs.declared.form.Sexpr.{Sexpr}
use Rattle.sexpr_core.specs.Lexicon.{is_quoted_byte}
use Rattle.sexpr_core.specs.Respelling.{AreSpellable}
use Rattle.sexpr_core.specs.Respelling as able
use Rattle.sexpr_core.specs.Spelling.{atom}
use Rattle.sexpr_core.specs.Texts.{form_text}
use Rattle.sexpr_core.proofs.Respelled.{form_text-Numeral}
use Rattle.term_core.specs.declared.tree.Tree.{Tree}
use Rattle.term_core.specs.Terms.{con_of, kids_of, size}
use Rattle.deriv_core.specs.Steps.{TreeStep}
use Rattle.answer_core.specs.AnswerText.{constructor_name, constructor_text, derived_line, ending, heading_text, list_text, node_line, numbered_lines, place_of_node, relation_name, relation_text, step_line, term_text, word}
use Rattle.answer_laws.specs.Names.{term_nesting, HasSpelledNames}
use Rattle.answer_laws.proofs.Forms.{list, numeral, symbol}
use Rattle.answer_laws.proofs.Literals.{literal_form, number_form}
use Rattle.answer_laws.proofs.Names.{constructor_spelled, relation_spelled}
use Rattle.answer_laws.proofs.Spellable.{literal_spellable, number_spellable}
use Rattle.answer_laws.proofs.Terms.{constructor_form, term_form, term_spelled, term_written}
use Rattle.answer_laws.proofs.Texts.{items_written, list_written, literal_written, number_written, symbol_written, words_written}
use Rattle.answer_laws.proofs.Values.{Fit}

abbrev pub version_form : Sexpr
version_form = list (symbol (codes "answer") ∷ numeral (codes "1") ∷ [])

abbrev pub term_line_form : Declarations → Tree → Sexpr
term_line_form sig t = list (symbol (codes "term") ∷ term_form sig t ∷ [])

abbrev pub size_form : ℕ → Sexpr
size_form n = list (symbol (codes "size") ∷ number_form n ∷ [])

abbrev pub node_form : Declarations → List Tree → ℕ → Tree → Sexpr
node_form sig nodes n t = list (symbol (codes "node") ∷ number_form n ∷ constructor_form sig (con_of t) ∷ map number_form (map (place_of_node nodes) (kids_of t)))

abbrev pub relation_form : Declarations → RelId → Sexpr
relation_form sig relation = symbol (relation_name (slice_get sig.relations relation.0))

abbrev pub step_form : Declarations → List Tree → ℕ → TreeStep → Sexpr
step_form sig nodes n s =
    list (symbol (codes "step") ∷ number_form n ∷ relation_form sig s.relation ∷ number_form (place_of_node nodes s.node) ∷ number_form s.rule
    ∷ list (map literal_form s.values) ∷ list (map number_form s.premises) ∷ [])

abbrev pub derived_form : ℕ → ℕ → Sexpr
derived_form n step = list (symbol (codes "derived") ∷ number_form n ∷ number_form step ∷ [])

-- a form for each item, of which the first has number n
abbrev pub numbered_forms : {X : Type 0} → (ℕ → X → Sexpr) → ℕ → List X → List Sexpr
numbered_forms form_of n [] = []
numbered_forms form_of n (x ∷ xs) = form_of n x ∷ numbered_forms form_of (suc n) xs

-- the forms, each on a line of its own
abbrev pub line : Sexpr → List ℕ
line form = form_text form ++ 10 ∷ []

abbrev pub lines : List Sexpr → List ℕ
lines forms = flat_map line forms

-- their texts

module _ (name : List ℕ) (items : List Sexpr) (text : List ℕ) (named : form_text (symbol name) ≡ name) (written : flat_map (λ form. word (form_text form)) items ≡ text) where
  pub keyword_written : form_text (list (symbol name ∷ items)) ≡ 40 ∷ ((name ++ text) ++ 41 ∷ [])
  keyword_written = list_written (symbol name ∷ items) ∙ ap₂ (λ x y. 40 ∷ ((x ++ y) ++ 41 ∷ [])) named written

  -- the line of the form, where its parts stand otherwise
  pub line_written : (whole : List ℕ) → whole ≡ (40 ∷ ((name ++ text) ++ 41 ∷ [])) ++ 10 ∷ [] → whole ≡ line (list (symbol name ∷ items))
  line_written whole e = e ∙ ap (λ t. t ++ 10 ∷ []) (sym keyword_written)

one_part : (h a : List ℕ) → (h ++ a) ++ 41 ∷ 10 ∷ [] ≡ ((h ++ (a ++ [])) ++ 41 ∷ []) ++ 10 ∷ []
one_part h a = simp (append_assoc, append-nil) refl

two_parts : (h a b : List ℕ) → h ++ a ++ b ++ 41 ∷ 10 ∷ [] ≡ ((h ++ (a ++ (b ++ []))) ++ 41 ∷ []) ++ 10 ∷ []
two_parts h a b = simp (append_assoc, append-nil) refl

three_parts : (h a b c : List ℕ) → h ++ a ++ b ++ c ++ 41 ∷ 10 ∷ [] ≡ ((h ++ (a ++ (b ++ c))) ++ 41 ∷ []) ++ 10 ∷ []
three_parts h a b c = simp append_assoc refl

six_parts : (h a b c d e f : List ℕ) → h ++ a ++ b ++ c ++ d ++ e ++ f ++ 41 ∷ 10 ∷ [] ≡ ((h ++ (a ++ (b ++ (c ++ (d ++ (e ++ (f ++ []))))))) ++ 41 ∷ []) ++ 10 ∷ []
six_parts h a b c d e f = simp (append_assoc, append-nil) refl

pub version_written : codes "(answer 1)" ++ 10 ∷ [] ≡ line version_form
version_written =
    line_written (codes "answer") (numeral (codes "1") ∷ []) (codes " 1") (symbol_written (codes "answer")) (ap (λ t. (32 ∷ t) ++ []) (form_text-Numeral (atom 0 (codes "1")))) (codes "(answer 1)" ++ 10 ∷ []) refl

pub term_line_written : (sig : Declarations) (t : Tree) → codes "(term" ++ word (term_text sig t) ++ ending ≡ line (term_line_form sig t)
term_line_written sig t =
    line_written (codes "term") (term_form sig t ∷ []) (word (term_text sig t) ++ []) (symbol_written (codes "term")) (ap (λ x. word x ++ []) (term_written sig t)) (codes "(term" ++ word (term_text sig t) ++ ending)
    (one_part (codes "(term") (word (term_text sig t)))

pub size_written : (n : ℕ) → codes "(size" ++ word (decimal n) ++ ending ≡ line (size_form n)
size_written n =
    line_written (codes "size") (number_form n ∷ []) (word (decimal n) ++ []) (symbol_written (codes "size")) (ap (λ x. word x ++ []) (number_written n)) (codes "(size" ++ word (decimal n) ++ ending)
    (one_part (codes "(size") (word (decimal n)))

words_of_places : (nodes kids : List Tree) → flat_map (λ n. word (decimal n)) (map (place_of_node nodes) kids) ≡ flat_map (λ kid. word (decimal (place_of_node nodes kid))) kids
words_of_places nodes [] = refl
words_of_places nodes (kid ∷ kids) = ap (λ ws. word (decimal (place_of_node nodes kid)) ++ ws) (words_of_places nodes kids)

pub node_written : (sig : Declarations) (nodes : List Tree) (n : ℕ) (t : Tree) → node_line sig nodes n t ≡ line (node_form sig nodes n t)
node_written sig nodes n t =
    let places : List ℕ = map (place_of_node nodes) (kids_of t) in
    let kids = words_written decimal number_form number_written places ∙ words_of_places nodes (kids_of t) in
    let kid_words : List ℕ = flat_map (λ kid. word (decimal (place_of_node nodes kid))) (kids_of t) in
    let constructor = symbol_written (constructor_name (slice_get sig.constructors (con_of t).0)) in
    line_written (codes "node") (number_form n ∷ constructor_form sig (con_of t) ∷ map number_form places) (word (decimal n) ++ (word (constructor_text sig (con_of t)) ++ kid_words)) (symbol_written (codes "node"))
    (ap₂ (λ x y. word x ++ y) (number_written n) (ap₂ (λ x y. word x ++ y) constructor kids)) (node_line sig nodes n t)
    (three_parts (codes "(node") (word (decimal n)) (word (constructor_text sig (con_of t))) kid_words)

pub step_written : (sig : Declarations) (nodes : List Tree) (n : ℕ) (s : TreeStep) → step_line sig nodes n s ≡ line (step_form sig nodes n s)
step_written sig nodes n s =
    let place : ℕ = place_of_node nodes s.node in
    let values : List ℕ = list_text literal_text s.values in
    let premises : List ℕ = list_text decimal s.premises in
    let relation = symbol_written (relation_name (slice_get sig.relations s.relation.0)) in
    let lists = ap₂ (λ x y. word x ++ (word y ++ [])) (items_written literal_text literal_form literal_written s.values) (items_written decimal number_form number_written s.premises) in
    line_written (codes "step")
    (number_form n ∷ relation_form sig s.relation ∷ number_form place ∷ number_form s.rule ∷ list (map literal_form s.values) ∷ list (map number_form s.premises) ∷ [])
    (word (decimal n) ++ (word (relation_text sig s.relation) ++ (word (decimal place) ++ (word (decimal s.rule) ++ (word values ++ (word premises ++ [])))))) (symbol_written (codes "step"))
    (ap₂ (λ x y. word x ++ y) (number_written n) (ap₂ (λ x y. word x ++ y) relation (ap₂ (λ x y. word x ++ y) (number_written place) (ap₂ (λ x y. word x ++ y) (number_written s.rule) lists))))
    (step_line sig nodes n s)
    (six_parts (codes "(step") (word (decimal n)) (word (relation_text sig s.relation)) (word (decimal place)) (word (decimal s.rule)) (word values) (word premises))

pub derived_written : (n step : ℕ) → derived_line n step ≡ line (derived_form n step)
derived_written n step =
    line_written (codes "derived") (number_form n ∷ number_form step ∷ []) (word (decimal n) ++ (word (decimal step) ++ [])) (symbol_written (codes "derived"))
    (ap₂ (λ x y. word x ++ (word y ++ [])) (number_written n) (number_written step)) (derived_line n step) (two_parts (codes "(derived") (word (decimal n)) (word (decimal step)))

pub lines_written : {X : Type 0} (line_of : ℕ → X → List ℕ) (form_of : ℕ → X → Sexpr) → ((n : ℕ) (x : X) → line_of n x ≡ line (form_of n x)) → (n : ℕ) (xs : List X)
    → numbered_lines line_of n xs ≡ lines (numbered_forms form_of n xs)
lines_written line_of form_of same n [] = refl
lines_written line_of form_of same n (x ∷ xs) = ap₂ (λ t ts. t ++ ts) (same n x) (lines_written line_of form_of same (suc n) xs)

abbrev pub heading_forms : Declarations → Tree → List Sexpr
heading_forms sig t = version_form ∷ term_line_form sig t ∷ size_form (size t) ∷ []

pub heading_written : (sig : Declarations) (t : Tree) → heading_text sig t ≡ lines (heading_forms sig t)
heading_written sig t =
    regroup (codes "(answer 1)" ++ 10 ∷ []) (codes "(term") (word (term_text sig t)) ending (codes "(size") (word (decimal (size t)))
    ∙ ap₂ (λ x y. x ++ y) version_written (ap₂ (λ x y. x ++ (y ++ [])) (term_line_written sig t) (size_written (size t)))
  where
    regroup : (v a b c d e : List ℕ) → v ++ a ++ b ++ c ++ d ++ e ++ c ≡ v ++ ((a ++ b ++ c) ++ ((d ++ e ++ c) ++ []))
    regroup v a b c d e = simp (append_assoc, append-nil) refl

-- they can be spelled

pub keyword_spelled : (name : List ℕ) (items forms : List Sexpr) → list_all is_quoted_byte name ≡ true → AreSpellable 199 items → AreSpellable 200 forms → AreSpellable 200 (list (symbol name ∷ items) ∷ forms)
keyword_spelled name items forms h inside more = able.list 199 (record { place = 0; items = symbol name ∷ items }) forms (able.symbol 199 (atom 0 name) items h inside) more

pub numbers_spelled : (depth : ℕ) (ns : List ℕ) → Fit ns → AreSpellable depth (map number_form ns)
numbers_spelled depth [] fit = able.nothing depth
numbers_spelled depth (n ∷ ns) fit =
    let P : ℕ → Type 0 = λ k. k < 10 ^ 64 in
    number_spellable depth n (map number_form ns) (All-head P n ns fit) (numbers_spelled depth ns (All-tail P n ns fit))

values_spelled : (depth : ℕ) (values : List Value) → list_all is_value values ≡ true → AreSpellable (suc depth) (map literal_form values)
values_spelled depth [] h = able.nothing (suc depth)
values_spelled depth (v ∷ values) h =
    let both = and_parts (is_value v) (list_all is_value values) h in
    literal_spellable depth v (map literal_form values) both.0 (values_spelled depth values both.1)

pub heading_spelled : (sig : Declarations) (t : Tree) (forms : List Sexpr) → HasSpelledNames sig → term_nesting t ≤ 199 → size t < 10 ^ 64 → AreSpellable 200 forms → AreSpellable 200 (heading_forms sig t ++ forms)
heading_spelled sig t forms names nest small more =
    keyword_spelled (codes "answer") (numeral (codes "1") ∷ []) (term_line_form sig t ∷ size_form (size t) ∷ forms) refl (able.numeral 199 (atom 0 (codes "1")) [] (refl, λ e. refl) (able.nothing 199))
    (keyword_spelled (codes "term") (term_form sig t ∷ []) (size_form (size t) ∷ forms) refl (term_spelled sig names t 199 [] nest (able.nothing 199))
    (keyword_spelled (codes "size") (number_form (size t) ∷ []) forms refl (number_spellable 199 (size t) [] small (able.nothing 199)) more))

pub node_spelled : (sig : Declarations) (nodes : List Tree) (n : ℕ) (t : Tree) (forms : List Sexpr) → HasSpelledNames sig → n < 10 ^ 64 → Fit (map (place_of_node nodes) (kids_of t)) → AreSpellable 200 forms
    → AreSpellable 200 (node_form sig nodes n t ∷ forms)
node_spelled sig nodes n t forms names small fit more =
    let places : List ℕ = map (place_of_node nodes) (kids_of t) in
    keyword_spelled (codes "node") (number_form n ∷ constructor_form sig (con_of t) ∷ map number_form places) forms refl
    (number_spellable 199 n (constructor_form sig (con_of t) ∷ map number_form places) small
    (able.symbol 199 (atom 0 (constructor_name (slice_get sig.constructors (con_of t).0))) (map number_form places) (constructor_spelled sig names (con_of t)) (numbers_spelled 199 places fit))) more

-- the numbers and the values of a step can be printed
pub record IsStepFit (nodes : List Tree) (s : TreeStep) : Type 0 where
  pub place : place_of_node nodes s.node < 10 ^ 64
  pub rule : s.rule < 10 ^ 64
  pub values : list_all is_value s.values ≡ true
  pub premises : Fit s.premises

pub step_spelled : (sig : Declarations) (nodes : List Tree) (n : ℕ) (s : TreeStep) (forms : List Sexpr) → HasSpelledNames sig → n < 10 ^ 64 → IsStepFit nodes s → AreSpellable 200 forms → AreSpellable 200 (step_form sig nodes n s ∷ forms)
step_spelled sig nodes n s forms names small fit more =
    let place : ℕ = place_of_node nodes s.node in
    let premises = able.list 198 (record { place = 0; items = map number_form s.premises }) [] (numbers_spelled 198 s.premises fit.premises) (able.nothing 199) in
    let values = able.list 198 (record { place = 0; items = map literal_form s.values }) (list (map number_form s.premises) ∷ []) (values_spelled 197 s.values fit.values) premises in
    keyword_spelled (codes "step")
    (number_form n ∷ relation_form sig s.relation ∷ number_form place ∷ number_form s.rule ∷ list (map literal_form s.values) ∷ list (map number_form s.premises) ∷ []) forms refl
    (number_spellable 199 n (relation_form sig s.relation ∷ number_form place ∷ number_form s.rule ∷ list (map literal_form s.values) ∷ list (map number_form s.premises) ∷ []) small
    (able.symbol 199 (atom 0 (relation_name (slice_get sig.relations s.relation.0))) (number_form place ∷ number_form s.rule ∷ list (map literal_form s.values) ∷ list (map number_form s.premises) ∷ []) (relation_spelled sig names s.relation)
    (number_spellable 199 place (number_form s.rule ∷ list (map literal_form s.values) ∷ list (map number_form s.premises) ∷ []) fit.place
    (number_spellable 199 s.rule (list (map literal_form s.values) ∷ list (map number_form s.premises) ∷ []) fit.rule values)))) more

pub derived_spelled : (n step : ℕ) (forms : List Sexpr) → n < 10 ^ 64 → step < 10 ^ 64 → AreSpellable 200 forms → AreSpellable 200 (derived_form n step ∷ forms)
derived_spelled n step forms small fit more =
    keyword_spelled (codes "derived") (number_form n ∷ number_form step ∷ []) forms refl (number_spellable 199 n (number_form step ∷ []) small (number_spellable 199 step [] fit (able.nothing 199))) more

-- the forms of items, the first of which has the number of those before it
pub each_spelled : {X : Type 0} (form_of : ℕ → X → Sexpr) (items done rest : List X) (forms : List Sexpr) → items ≡ done ++ rest → ((before : List X) (x : X) (after : List X) (more : List Sexpr) → items ≡ before ++ x ∷ after → AreSpellable 200 more → AreSpellable 200 (form_of (length before) x ∷ more))
    → AreSpellable 200 forms → AreSpellable 200 (numbered_forms form_of (length done) rest ++ forms)
each_spelled form_of items done [] forms split one more = more
each_spelled form_of items done (x ∷ rest) forms split one more =
    let next : items ≡ (done ++ x ∷ []) ++ rest = split ∙ sym (append_assoc done (x ∷ []) rest) in
    let count : length (done ++ x ∷ []) ≡ suc (length done) = omega (arith, length_push done x) in
    let later = each_spelled form_of items (done ++ x ∷ []) rest forms next one more in
    one done x rest (numbered_forms form_of (suc (length done)) rest ++ forms) split (subst (λ n. AreSpellable 200 (numbered_forms form_of n rest ++ forms)) count later)
