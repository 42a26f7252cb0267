-- The canonical spelling of a form that can be spelled is a spelling of the same form, places aside.
use Rattle.std.proofs.Common.{◌≡◌, ℕ, zero, suc, ◌+◌, Bool, true, false, not, cond, List, [], ◌∷◌, ◌++◌, refl, sym, ap, ap₂, ◌∙◌, subst, length, map, append_assoc, rules, arith}
use Rattle.std.specs.Prelude.{◌==◌, All, codes}
use Rattle.std.specs.List.{list_all}
use Rattle.std.proofs.Math.ListN.{length-append}
use Rattle.std.proofs.lemmas.Bool.{true≢false, and_parts}
use Rattle.std.proofs.lemmas.List.Elements.{All-nil, All-cons}
use Rattle.sig_core.specs.Names.{is_simple_symbol, symbol_text}
use Rattle.sexpr_core.specs.declared.form.Atom.{Atom}
use Rattle.sexpr_core.specs.declared.form.Nest.{Nest}
use Rattle.sexpr_core.specs.declared.form.Sexpr as sexpr
use Rattle.sexpr_core.specs.declared.form.Sexpr.{Sexpr, the_lemmas}
use Rattle.sexpr_core.specs.Lexicon.{is_digit, is_symbol_byte, is_quoted_byte, doubled, EndsBefore, IsSimpleSymbol}
use Rattle.sexpr_core.specs.Respelling.{placeless, AreSpellable, SpellsAgain}
use Rattle.sexpr_core.specs.Respelling as able
use Rattle.sexpr_core.specs.Spelling.{atom, IsToken, Spelled, Spell, nothing, blank, comment, token, list, numeral, simple_symbol, quoted_symbol, string, keyword}
use Rattle.sexpr_core.specs.Texts.{form_text, gap_before, joined, joined_from}
use Rattle.sexpr_core.proofs.Advances.{symbol_is_quoted}
use Rattle.sexpr_core.proofs.Bytes.{list_all-weaker}
use Rattle.sexpr_core.proofs.Tokens.{symbol_is_word}

pub form_text-Symbol : (a : Atom) → form_text (sexpr.Symbol a) ≡ symbol_text a.bytes
form_text-Symbol a = search (rules, the_lemmas)

pub form_text-Numeral : (a : Atom) → form_text (sexpr.Numeral a) ≡ a.bytes
form_text-Numeral a = search (rules, the_lemmas)

form_text-Text : (a : Atom) → form_text (sexpr.Text a) ≡ 34 ∷ (doubled a.bytes ++ 34 ∷ [])
form_text-Text a = search (rules, the_lemmas)

form_text-Keyword : (a : Atom) → form_text (sexpr.Keyword a) ≡ 58 ∷ a.bytes
form_text-Keyword a = search (rules, the_lemmas)

pub form_text-List : (n : Nest) → form_text (sexpr.List n) ≡ 40 ∷ (joined (map form_text n.items) ++ 41 ∷ [])
form_text-List n = search (rules, the_lemmas)

placeless-Symbol : (a : Atom) → placeless (sexpr.Symbol a) ≡ sexpr.Symbol (atom 0 a.bytes)
placeless-Symbol a = search (rules, the_lemmas)

placeless-Numeral : (a : Atom) → placeless (sexpr.Numeral a) ≡ sexpr.Numeral (atom 0 a.bytes)
placeless-Numeral a = search (rules, the_lemmas)

placeless-Text : (a : Atom) → placeless (sexpr.Text a) ≡ sexpr.Text (atom 0 a.bytes)
placeless-Text a = search (rules, the_lemmas)

placeless-Keyword : (a : Atom) → placeless (sexpr.Keyword a) ≡ sexpr.Keyword (atom 0 a.bytes)
placeless-Keyword a = search (rules, the_lemmas)

placeless-List : (n : Nest) → placeless (sexpr.List n) ≡ sexpr.List (record { place = 0; items = map placeless n.items })
placeless-List n = search (rules, the_lemmas)

-- wherever the form's canonical spelling stands before bytes that don't go on with a token, it spells the same form
abbrev pub Again : ℕ → Sexpr → Type 0
Again depth form =
    (place : ℕ) (rest : List ℕ) (tail : List Sexpr) (end : ℕ) (last : List ℕ) →
    EndsBefore is_symbol_byte rest → EndsBefore (λ byte. byte == 34) rest →
    Spelled depth (place + length (form_text form)) rest tail end last →
    (other : Sexpr) × Spelled depth place (form_text form ++ rest) (other ∷ tail) end last × (placeless other ≡ placeless form)

abbrev pub EachAgain : ℕ → List Sexpr → Type 0
EachAgain depth [] = Unit {0}
EachAgain depth (form ∷ forms) = Again depth form × EachAgain depth forms

-- a token, made anew at each place
token_again : (depth : ℕ) (form : Sexpr) (text : List ℕ) (made : ℕ → Sexpr) → form_text form ≡ text →
    ((place : ℕ) → placeless (made place) ≡ placeless form) →
    ((place : ℕ) (rest : List ℕ) → EndsBefore is_symbol_byte rest → EndsBefore (λ byte. byte == 34) rest → IsToken place rest text (made place)) →
    Again depth form
token_again depth form text made e same is place rest tail end last word quote after =
    let moved = subst (λ t. Spelled depth (place + length t) rest tail end last) e after in
    (made place, subst (λ t. Spelled depth place (t ++ rest) (made place ∷ tail) end last) (sym e) (token depth place text rest (made place) tail end last (is place rest word quote) moved), same place)

simple_of : (name : List ℕ) → is_simple_symbol name ≡ true → IsSimpleSymbol name
simple_of [] e = absurd (true≢false (sym e))
simple_of (byte ∷ bytes) e =
    let parts = and_parts (not (is_digit byte)) (list_all is_symbol_byte (byte ∷ bytes)) e in
    (parts.1, no_digit (is_digit byte) parts.0)
  where
    no_digit : (digit : Bool) → not digit ≡ true → digit ≡ false
    no_digit true f = absurd (true≢false (sym f))
    no_digit false f = refl

symbol_again : (depth : ℕ) (a : Atom) → list_all is_quoted_byte a.bytes ≡ true → (simple : Bool) → is_simple_symbol a.bytes ≡ simple → Again depth (sexpr.Symbol a)
symbol_again depth a quoted true e =
    token_again depth (sexpr.Symbol a) a.bytes (λ place. sexpr.Symbol (atom place a.bytes))
    (form_text-Symbol a ∙ ap (λ simple. cond simple a.bytes ((codes "|" ++ a.bytes) ++ codes "|")) e)
    (λ place. placeless-Symbol (atom place a.bytes) ∙ sym (placeless-Symbol a))
    (λ place rest word quote. simple_symbol a.bytes (simple_of a.bytes e) word)
symbol_again depth a quoted false e =
    token_again depth (sexpr.Symbol a) (124 ∷ (a.bytes ++ 124 ∷ [])) (λ place. sexpr.Symbol (atom place a.bytes))
    (form_text-Symbol a ∙ ap (λ simple. cond simple a.bytes ((codes "|" ++ a.bytes) ++ codes "|")) e)
    (λ place. placeless-Symbol (atom place a.bytes) ∙ sym (placeless-Symbol a))
    (λ place rest word quote. quoted_symbol a.bytes quoted)

-- the gap before an item
gapped : (depth i place : ℕ) (bytes : List ℕ) (forms : List Sexpr) (end : ℕ) (last : List ℕ) →
    Spelled depth (place + length (gap_before i)) bytes forms end last → Spelled depth place (gap_before i ++ bytes) forms end last
gapped depth zero place bytes forms end last s = let e : place + 0 ≡ place = omega arith in subst (λ p. Spelled depth p bytes forms end last) e s
gapped depth (suc i) place bytes forms end last s = blank depth place 32 bytes forms end last refl s

-- what follows an item of a list doesn't go on with it
item_ends : (test : ℕ → Bool) → test 32 ≡ false → test 41 ≡ false → (i : ℕ) (texts : List (List ℕ)) (after : List ℕ) → EndsBefore test (joined_from (suc i) texts ++ 41 ∷ after)
item_ends test space close i [] after = close
item_ends test space close i (text ∷ texts) after = space

regroup : (gap text items after : List ℕ) → gap ++ (text ++ (items ++ after)) ≡ ((gap ++ text) ++ items) ++ after
regroup gap text items after = sym (append_assoc (gap ++ text) items after ∙ append_assoc gap text (items ++ after))

-- the items of a list, from the one with this number on
items_again : (depth : ℕ) (items : List Sexpr) → EachAgain depth items → (i place : ℕ) (after : List ℕ) →
    (others : List Sexpr)
    × Spelled depth place (joined_from i (map form_text items) ++ 41 ∷ after) others (place + length (joined_from i (map form_text items))) (41 ∷ after)
    × (map placeless others ≡ map placeless items)
items_again depth [] each i place after =
    let e : place ≡ place + 0 = omega arith in
    ([], subst (λ p. Spelled depth place (41 ∷ after) [] p (41 ∷ after)) e (nothing depth place (41 ∷ after)), refl)
items_again depth (form ∷ forms) each i place after =
    let gap = gap_before i in
    let text = form_text form in
    let later = joined_from (suc i) (map form_text forms) in
    let more = items_again depth forms each.1 (suc i) (place + length gap + length text) after in
    let here = each.0 (place + length gap) (later ++ 41 ∷ after) more.0 (place + length gap + length text + length later) (41 ∷ after)
    (item_ends is_symbol_byte refl refl i (map form_text forms) after) (item_ends (λ byte. byte == 34) refl refl i (map form_text forms) after) more.1 in
    let all = gapped depth i place (text ++ (later ++ 41 ∷ after)) (here.0 ∷ more.0) (place + length gap + length text + length later) (41 ∷ after) here.1 in
    let ends : place + length gap + length text + length later ≡ place + length ((gap ++ text) ++ later) = omega (arith, length-append (gap ++ text) later, length-append gap text) in
    let moved = subst (λ bytes. Spelled depth place bytes (here.0 ∷ more.0) (place + length gap + length text + length later) (41 ∷ after)) (regroup gap text later (41 ∷ after)) all in
    (here.0 ∷ more.0, subst (λ p. Spelled depth place (((gap ++ text) ++ later) ++ 41 ∷ after) (here.0 ∷ more.0) p (41 ∷ after)) ends moved, ap₂ (λ f fs. f ∷ fs) here.2 more.2)

list_again : (depth : ℕ) (n : Nest) → EachAgain depth n.items → Again (suc depth) (sexpr.List n)
list_again depth n each place rest tail end last word quote after =
    let texts = joined (map form_text n.items) in
    let inner = items_again depth n.items each 0 (place + 1) rest in
    let other : Sexpr = sexpr.List (record { place = place; items = inner.0 }) in
    let whole = form_text-List n in
    let size : place + length (form_text (sexpr.List n)) ≡ place + 1 + length texts + 1 = omega (arith, ap length whole, length-append texts (41 ∷ [])) in
    let moved = subst (λ p. Spelled (suc depth) p rest tail end last) size after in
    let made = list depth place (texts ++ 41 ∷ rest) inner.0 (place + 1 + length texts) rest tail end last inner.1 moved in
    let bytes : 40 ∷ (texts ++ 41 ∷ rest) ≡ form_text (sexpr.List n) ++ rest = ap (λ v. 40 ∷ v) (sym (append_assoc texts (41 ∷ []) rest)) ∙ ap (λ v. v ++ rest) (sym whole) in
    let same : placeless other ≡ placeless (sexpr.List n) =
    placeless-List (record { place = place; items = inner.0 }) ∙ ap (λ (items : List Sexpr). sexpr.List (record { place = 0; items = items })) inner.2 ∙ sym (placeless-List n) in
    (other, subst (λ b. Spelled (suc depth) place b (other ∷ tail) end last) bytes made, same)

pub each_again : {depth : ℕ} {forms : List Sexpr} → AreSpellable depth forms → EachAgain depth forms
each_again (able.nothing depth) = tt
each_again (able.symbol depth a forms h more) = (symbol_again depth a h (is_simple_symbol a.bytes) refl, each_again more)
each_again (able.numeral depth a forms h more) = (
  token_again depth (sexpr.Numeral a) a.bytes (λ place. sexpr.Numeral (atom place a.bytes)) (form_text-Numeral a)
      (λ place. placeless-Numeral (atom place a.bytes) ∙ sym (placeless-Numeral a)) (λ place rest word quote. numeral a.bytes h word),
  each_again more,
)
each_again (able.string depth a forms h more) = (
  token_again depth (sexpr.Text a) (34 ∷ (doubled a.bytes ++ 34 ∷ [])) (λ place. sexpr.Text (atom place a.bytes)) (form_text-Text a)
      (λ place. placeless-Text (atom place a.bytes) ∙ sym (placeless-Text a)) (λ place rest word quote. string a.bytes h quote),
  each_again more,
)
each_again (able.keyword depth a forms h more) = (
  token_again depth (sexpr.Keyword a) (58 ∷ a.bytes) (λ place. sexpr.Keyword (atom place a.bytes)) (form_text-Keyword a)
      (λ place. placeless-Keyword (atom place a.bytes) ∙ sym (placeless-Keyword a)) (λ place rest word quote. keyword a.bytes h word),
  each_again more,
)
each_again (able.list depth n forms inside more) = (list_again depth n (each_again inside), each_again more)

alone : (form : Sexpr) → Again 200 form → SpellsAgain form
alone form again =
    let size = length (form_text form) in
    let made = again 0 [] [] (0 + size) [] tt tt (nothing 200 (0 + size) []) in
    (made.0, (0 + size, subst (λ text. Spelled 200 0 text (made.0 ∷ []) (0 + size) []) (append-nil (form_text form)) made.1), made.2)
  where
    append-nil : (xs : List ℕ) → xs ++ [] ≡ xs
    append-nil [] = refl
    append-nil (x ∷ xs) = ap (λ ys. x ∷ ys) (append-nil xs)

-- each form that can be spelled spells itself again
pub spelled_again : (forms : List Sexpr) → AreSpellable 200 forms → All SpellsAgain forms
spelled_again forms h = go forms (each_again h)
  where
    go : (fs : List Sexpr) → EachAgain 200 fs → All SpellsAgain fs
    go [] each = All-nil SpellsAgain
    go (f ∷ fs) each = All-cons SpellsAgain f fs (alone f each.0) (go fs each.1)

token_spellable : (depth : ℕ) {place : ℕ} {rest text : List ℕ} {form : Sexpr} (forms : List Sexpr) → IsToken place rest text form → AreSpellable depth forms → AreSpellable depth (form ∷ forms)
token_spellable depth {place} forms (numeral text h e) more = able.numeral depth (atom place text) forms h more
token_spellable depth {place} forms (simple_symbol text h e) more =
    able.symbol depth (atom place text) forms (list_all-weaker is_symbol_byte is_quoted_byte symbol_is_quoted text (symbol_is_word text h)) more
token_spellable depth {place} forms (quoted_symbol name h) more = able.symbol depth (atom place name) forms h more
token_spellable depth {place} forms (string contents h e) more = able.string depth (atom place contents) forms h more
token_spellable depth {place} forms (keyword name h e) more = able.keyword depth (atom place name) forms h more

spelled_spellable : {depth place : ℕ} {bytes : List ℕ} {forms : List Sexpr} {end : ℕ} {rest : List ℕ} → Spelled depth place bytes forms end rest → AreSpellable depth forms
spelled_spellable (nothing depth place rest) = able.nothing depth
spelled_spellable (blank depth place byte bytes forms end rest h more) = spelled_spellable more
spelled_spellable (comment depth place text bytes forms end rest h ends more) = spelled_spellable more
spelled_spellable (token depth place text bytes form forms end rest t more) = token_spellable depth forms t (spelled_spellable more)
spelled_spellable (list depth place bytes items close after forms end rest inside more) =
    able.list depth (record { place = place; items = items }) forms (spelled_spellable inside) (spelled_spellable more)

-- what a text spells can be spelled
pub read_spellable : (text : List ℕ) (forms : List Sexpr) → Spell text forms → AreSpellable 200 forms
read_spellable text forms s = spelled_spellable s.1
