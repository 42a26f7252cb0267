-- What a reader does after each thing that may be begun keeps what the rest of the text completes.
use Rattle.std.proofs.Common.{inl, inr, ◌⊎◌, ◌≡◌, ℕ, ◌+◌, ◌-◌, ◌<◌, ◌≤◌, Bool, true, false, cond, List, [], ◌∷◌, ◌++◌, refl, sym, ap, ◌∙◌, subst, length, append_assoc, arith}
use Rattle.std.specs.Prelude.{◌==◌, ◌↔◌, ◌||◌, not, nat_le, codes, Some}
use Rattle.std.specs.List.{list_all, list_any}
use Rattle.std.proofs.Math.ListN.{length-append}
use Rattle.std.proofs.lemmas.List.{append-nil}
use Rattle.std.proofs.lemmas.Bool.{and_parts, cases_Bool, or_cases, or_left, or_right, eqb-true, eqb-false, leb-true, le-leb}
use Rattle.sexpr_core.specs.declared.form.Atom.{Atom}
use Rattle.sexpr_core.specs.declared.form.Sexpr as sexpr
use Rattle.sexpr_core.specs.declared.form.Sexpr.{Sexpr}
use Rattle.sexpr_core.specs.declared.reader.Opened.{Opened}
use Rattle.sexpr_core.specs.declared.reader.Begun.{Begun}
use Rattle.sexpr_core.specs.declared.reader.Begun.TheVariants as begun
use Rattle.sexpr_core.specs.Lexicon.{is_between, is_letter, is_blank, is_line_end, is_digit, is_symbol_byte, is_allowed, is_quoted_byte, doubled, IsNumeral, IsSimpleSymbol}
use Rattle.sexpr_core.specs.Model.{State, Move, Goes, Stops, kept, handed, goes_on, begins, after_forms, settles, ends, longer, continues_numeral, continues_name, after_name, advance, name_form, last_forms}
use Rattle.sexpr_core.specs.Prefixes.{EndsInNumeralAt}
use Rattle.sexpr_core.specs.Reading.{Completes}
use Rattle.sexpr_core.specs.Spelling.{atom, IsToken, HasNoToken, numeral, simple_symbol, quoted_symbol, string, keyword}
use Rattle.sexpr_core.specs.Standing.{bytes_of, start_of, IsNameSofar, IsBegun, IsValid, Resumes, last_of}
use Rattle.sexpr_core.proofs.Bytes.{among, apart, digit_is_symbol_byte, list_all-more}
use Rattle.sexpr_core.proofs.Completing.{step_token, no_token}
use Rattle.sexpr_core.proofs.Cuts.{quoted_cut, string_cut, keyword_cut, numeral_broken}
use Rattle.sexpr_core.proofs.Moves.{iff_trans, relocate, plain, hand, kept_given, comment_on, comment_off, Between, Why, broken, colon, inside, ended, Takes, at_gap, begins_takes, gap_why, no_numerals, handed_numerals}
use Rattle.sexpr_core.proofs.Quoted.{doubled-append}
use Rattle.sexpr_core.proofs.Steps.{blank_starts_none}
use Rattle.sexpr_core.proofs.Tokens.{starts_token, starts_word}

-- no token stands where one should begin
pub cut : (st : List Opened) (d : ℕ) (items : List Sexpr) (p : ℕ) (forms : List Sexpr) (x : ℕ) (xs : List ℕ) → starts_token x ≡ true → HasNoToken p (x ∷ xs) → Completes st d items p (x ∷ xs) forms → ⊥
cut st d items p forms x xs is none c =
    no_token st d items p forms x xs (go (cases_Bool (is_blank x))) (apart starts_token x 59 is refl) (apart starts_token x 40 is refl) (apart starts_token x 41 is refl) none c
  where
    go : (is_blank x ≡ true) ⊎ (is_blank x ≡ false) → is_blank x ≡ false
    go (inl e) = absurd (apart starts_token x x is (blank_starts_none x e) refl)
    go (inr e) = e

pub not_empty : (front : List Sexpr) (f : Sexpr) (rest : List Sexpr) → front ++ f ∷ rest ≡ [] → ⊥
not_empty [] f rest e = cc
not_empty (g ∷ gs) f rest e = cc

-- what ends a list ends each list that it ends
pub tail_ends : (xs : List Sexpr) (y : Sexpr) (ys before : List Sexpr) (f : Sexpr) → xs ++ y ∷ ys ≡ before ++ f ∷ [] → (front : List Sexpr) × (y ∷ ys ≡ front ++ f ∷ [])
tail_ends [] y ys before f e = (before, e)
tail_ends (x ∷ xs) y ys [] f e =
    let none : xs ++ y ∷ ys ≡ [] = cc in
    absurd (not_empty xs y ys none)
tail_ends (x ∷ xs) y ys (b ∷ bs) f e =
    let tails : xs ++ y ∷ ys ≡ bs ++ f ∷ [] = cc in
    tail_ends xs y ys bs f tails

pub numerals_append : (xs ys : List Sexpr) (n : ℕ) → ((place : ℕ) → EndsInNumeralAt place xs → place < n) → ((place : ℕ) → EndsInNumeralAt place ys → place < n) → (place : ℕ) → EndsInNumeralAt place (xs ++ ys) → place < n
numerals_append xs [] n h k place (before, start, text, e, q) = h place (before, start, text, sym (append-nil xs) ∙ e, q)
numerals_append xs (y ∷ ys) n h k place (before, start, text, e, q) =
    let tail = tail_ends xs y ys before (sexpr.Numeral (atom start text)) e in
    k place (tail.0, start, text, tail.1, q)

numeral_end : (a b : Atom) (fed : ℕ) → sexpr.Numeral a ≡ sexpr.Numeral b → a.place + length a.bytes ≡ fed → b.place + length b.bytes < fed + 1
numeral_end a b fed e h =
    let same : a ≡ b = cc in
    let there : b.place + length b.bytes ≡ fed = subst (λ c. c.place + length c.bytes ≡ fed) same h in
    omega arith

between_inner : (a b c d x : ℕ) → c ≤ a → b ≤ d → is_between a b x ≡ true → is_between c d x ≡ true
between_inner a b c d x h k e =
    let both = and_parts (nat_le a x) (nat_le x b) e in
    let low : c ≤ x = omega (arith, leb-true a x both.0) in
    let high : x ≤ d = omega (arith, leb-true x b both.1) in
    rw (le-leb c x low, le-leb x d high) refl

printable : (x : ℕ) → is_between 32 126 x ≡ true → is_allowed x ≡ true
printable x e = or_left _ (is_between 128 255 x) (or_right (is_blank x) _ e)

letter_is_allowed : (x : ℕ) → is_letter x ≡ true → is_allowed x ≡ true
letter_is_allowed x e = go (or_cases (is_between 65 90 x) (is_between 97 122 x) e)
  where
    go : (is_between 65 90 x ≡ true) ⊎ (is_between 97 122 x ≡ true) → is_allowed x ≡ true
    go (inl h) = printable x (between_inner 65 90 32 126 x (omega arith) (omega arith) h)
    go (inr h) = printable x (between_inner 97 122 32 126 x (omega arith) (omega arith) h)

mark_is_allowed : (x : ℕ) → list_any (λ mark. mark == x) (codes "~!@$%^&*_-+=<>.?/") ≡ true → is_allowed x ≡ true
mark_is_allowed x e = among (λ n. is_allowed n ≡ true) (codes "~!@$%^&*_-+=<>.?/") x (refl, (refl, (refl, (refl, (refl, (refl, (refl, (refl, (refl, (refl, (refl, (refl, (refl, (refl, (refl, (refl, (refl, tt))))))))))))))))) e

symbol_is_allowed : (x : ℕ) → is_symbol_byte x ≡ true → is_allowed x ≡ true
symbol_is_allowed x e = go (or_cases (is_letter x || is_digit x) _ e)
  where
    go : ((is_letter x || is_digit x) ≡ true) ⊎ (list_any (λ mark. mark == x) (codes "~!@$%^&*_-+=<>.?/") ≡ true) → is_allowed x ≡ true
    go (inr h) = mark_is_allowed x h
    go (inl h) = inner (or_cases (is_letter x) (is_digit x) h)
      where
        inner : (is_letter x ≡ true) ⊎ (is_digit x ≡ true) → is_allowed x ≡ true
        inner (inl k) = letter_is_allowed x k
        inner (inr k) = printable x (between_inner 48 57 32 126 x (omega arith) (omega arith) k)

is_not : (test : ℕ → Bool) (c : ℕ) → test c ≡ false → (x : ℕ) → test x ≡ true → (x == c) ≡ false
is_not test c isnt x is = go (cases_Bool (x == c))
  where
    go : ((x == c) ≡ true) ⊎ ((x == c) ≡ false) → (x == c) ≡ false
    go (inl e) = absurd (apart test x c is isnt (eqb-true x c e))
    go (inr e) = e

pub symbol_is_quoted : (x : ℕ) → is_symbol_byte x ≡ true → is_quoted_byte x ≡ true
symbol_is_quoted x e = rw (symbol_is_allowed x e, is_not is_symbol_byte 124 refl x e, is_not is_symbol_byte 92 refl x e) refl

not_inside : (test : ℕ → Bool) (x : ℕ) → (is_symbol_byte x ≡ true → test x ≡ true) → test x ≡ false → is_symbol_byte x ≡ false
not_inside test x w e = go (cases_Bool (is_symbol_byte x))
  where
    go : (is_symbol_byte x ≡ true) ⊎ (is_symbol_byte x ≡ false) → is_symbol_byte x ≡ false
    go (inl h) = absurd (apart test x x (w h) e refl)
    go (inr h) = h

after_takes : (m : Move) (s s1 : State) (x : ℕ) (first : List Sexpr) → s1.fed ≡ s.fed → s1.begun ≡ begun.Nothing → ((place : ℕ) → EndsInNumeralAt place first → place < s.fed + 1) → ((more : List ℕ) (forms : List Sexpr) → Resumes s (x ∷ more) forms ↔ ((rest : List Sexpr) × (forms ≡ first ++ rest) × Resumes s1 (x ∷ more) rest)) → ((reason : ℕ) → Between s1.stack x reason → Why s x reason first) → Takes s1 x m → Takes s x (after_forms first m)
after_takes (Goes t given) s s1 x first e n numerals same why takes = record {
  valid = takes.valid;
  fed = takes.fed ∙ ap (λ n. n + 1) e;
  last = λ bytes ends. takes.last bytes (bytes, sym (append-nil bytes) ∙ ap (λ b. bytes ++ last_of b) (sym n));
  numerals = λ place h. numerals_append first given t.fed (λ p k. omega (arith, numerals p k, takes.fed, e)) takes.numerals place h;
  same = λ more forms. (
    λ c. (
        let one = (same more forms).0 c in
        let two = (takes.same more one.0).0 one.2 in
        (two.0, one.1 ∙ ap (λ v. first ++ v) two.1 ∙ sym (append_assoc first given two.0), two.2)
        ),
    λ r. (same more forms).1 (given ++ r.0, r.1 ∙ append_assoc first given r.0, (takes.same more (given ++ r.0)).1 (r.0, refl, r.2)),
  );
}
after_takes (Stops reason given) s s1 x first e n numerals same why takes =
    let gap = gap_why s1 x n takes.why in
    record {
      dead = λ more forms c. (
          let one = (same more forms).0 c in
          takes.dead more one.0 one.2
          );
      why = subst (λ v. Why s x reason v) (sym (append-nil first) ∙ ap (λ v. first ++ v) (sym gap.0)) (why reason gap.1);
    }

abbrev pub at : List Opened → List Sexpr → Begun → ℕ → State
at st items b fed = record { stack = st; forms = items; begun = b; fed = fed }

module _ (st : List Opened) (items : List Sexpr) (b : Begun) (fed x : ℕ) (valid : IsValid (at st items b fed)) where
  -- a token ends before the byte
  settles_takes : (f : Sexpr) → last_forms b ≡ Some (f ∷ []) → last_of b ≡ bytes_of b → ((a : Atom) → f ≡ sexpr.Numeral a → a.place + length a.bytes < fed + 1) → ((more : List ℕ) → IsToken (start_of b fed) (x ∷ more) (bytes_of b) f) → Takes (at st items b fed) x (settles st items fed f x)
  settles_takes f is whole numerals token =
      after_takes (begins st (kept st items f) fed x) (at st items b fed) (at_gap st (kept st items f) fed) x (handed st f) refl refl (handed_numerals st f (fed + 1) numerals)
      (λ more forms. iff_trans (step_token st (200 - length st) items (start_of b fed) forms (bytes_of b) (x ∷ more) f (token more))
      (iff_trans (relocate st _ _ (items ++ f ∷ []) _ fed (x ∷ more) (x ∷ more) forms refl valid.place refl) (hand st (200 - length st) items f fed (x ∷ more) forms valid.given)))
      (λ reason between. ended reason f is token whole between)
      (begins_takes st (kept st items f) fed x valid.levels (kept_given st items f valid.given))

  -- what was begun goes on with the byte
  longer_takes : (c : Begun) → IsBegun c → bytes_of c ≡ bytes_of b ++ x ∷ [] → start_of c (fed + 1) ≡ start_of b fed → last_of b ≡ bytes_of b → last_of c ≡ bytes_of c → Takes (at st items b fed) x (goes_on st items fed c)
  longer_takes c is bytes place whole whole_too =
      let size : length (bytes_of c) ≡ length (bytes_of b) + 1 = ap (λ v. length v) bytes ∙ length-append (bytes_of b) (x ∷ []) in
      record {
        valid = record { levels = valid.levels; given = valid.given; begun = is; place = omega (arith, valid.place, size, place) };
        fed = refl;
        last = λ all ends. (ends.0, ap (λ v. v ++ x ∷ []) (ends.1 ∙ ap (λ v. ends.0 ++ v) whole) ∙ append_assoc ends.0 (bytes_of b) (x ∷ []) ∙ ap (λ v. ends.0 ++ v) (sym (whole_too ∙ bytes)));
        numerals = no_numerals (fed + 1);
        same = λ more forms. plain _ _ forms (relocate st _ _ items _ _ (bytes_of b ++ x ∷ more) (bytes_of c ++ more) forms refl (sym place) (sym (append_assoc (bytes_of b) (x ∷ []) more) ∙ ap (λ v. v ++ more) (sym bytes)));
      }

  -- the byte ends a token
  ends_takes : (f : Sexpr) → ((a : Atom) → f ≡ sexpr.Numeral a → a.place + length a.bytes < fed + 1) → ((more : List ℕ) → IsToken (start_of b fed) more (bytes_of b ++ x ∷ []) f) → Takes (at st items b fed) x (ends st items fed f)
  ends_takes f numerals token =
      let size : length (bytes_of b ++ x ∷ []) ≡ length (bytes_of b) + 1 = length-append (bytes_of b) (x ∷ []) in
      let place : start_of b fed + length (bytes_of b ++ x ∷ []) ≡ fed + 1 = omega (arith, valid.place, size) in
      record {
        valid = record { levels = valid.levels; given = kept_given st items f valid.given; begun = tt; place = omega arith };
        fed = refl;
        last = λ bytes h. (bytes ++ x ∷ [], sym (append-nil (bytes ++ x ∷ [])));
        numerals = handed_numerals st f (fed + 1) numerals;
        same = λ more forms.
            iff_trans (relocate st _ _ items _ _ (bytes_of b ++ x ∷ more) ((bytes_of b ++ x ∷ []) ++ more) forms refl refl (sym (append_assoc (bytes_of b) (x ∷ []) more)))
            (iff_trans (step_token st (200 - length st) items (start_of b fed) forms (bytes_of b ++ x ∷ []) more f (token more))
            (iff_trans (relocate st _ _ (items ++ f ∷ []) _ (fed + 1) more more forms refl place refl) (hand st (200 - length st) items f (fed + 1) more forms valid.given)));
      }

pub symbol_more : (text : List ℕ) (x : ℕ) → IsSimpleSymbol text → is_symbol_byte x ≡ true → IsSimpleSymbol (text ++ x ∷ [])
symbol_more [] x h e = absurd h
symbol_more (y ∷ ys) x h e = (list_all-more is_symbol_byte (y ∷ ys) x h.0 e, h.1)

numeral_more : (text : List ℕ) (x : ℕ) → IsNumeral text → continues_numeral text x ≡ true → IsNumeral (text ++ x ∷ [])
numeral_more [] x h e = absurd h
numeral_more (y ∷ ys) x h e =
    let both = and_parts (not (y == 48)) (is_digit x) e in
    (list_all-more is_digit (y ∷ ys) x h.0 both.1, λ z. absurd (apart (λ n. not (n == 48)) y 48 both.0 refl z))

not_true : (b : Bool) → not b ≡ true → b ≡ false
not_true true e = cc
not_true false e = refl

name_more : (text : List ℕ) (x : ℕ) → IsNameSofar text → continues_name text x ≡ true → IsNameSofar (text ++ x ∷ [])
name_more [] x h e =
    let both = and_parts (is_symbol_byte x) (not (is_digit x)) e in
    (rw both.0 refl, not_true (is_digit x) both.1)
name_more (y ∷ ys) x h e = symbol_more (y ∷ ys) x h e

symbol_starts : (text more : List ℕ) → IsNumeral text → (P : Type 0) → ((x : ℕ) (xs : List ℕ) → text ++ more ≡ x ∷ xs → starts_token x ≡ true → P) → P
symbol_starts [] more h P k = absurd h
symbol_starts (y ∷ ys) more h P k = k y (ys ++ more) refl (starts_word y (digit_is_symbol_byte y (and_parts (is_digit y) (list_all is_digit ys) h.0).0))

doubled_one : (text : List ℕ) (x : ℕ) → (x == 34) ≡ false → doubled (text ++ x ∷ []) ≡ doubled text ++ x ∷ []
doubled_one text x e = doubled-append text (x ∷ []) ∙ ap (λ v. doubled text ++ v) (rw e refl)

module _ (st : List Opened) (items : List Sexpr) (fed x : ℕ) where
  pub symbol_takes : (a : Atom) (t : Bool) → is_symbol_byte x ≡ t → IsValid (at st items (begun.Symbol a) fed) → Takes (at st items (begun.Symbol a) fed) x (cond t (goes_on st items fed (begun.Symbol (longer a x))) (settles st items fed (sexpr.Symbol a) x))
  symbol_takes a true e valid = longer_takes st items (begun.Symbol a) fed x valid (begun.Symbol (longer a x)) (symbol_more a.bytes x valid.begun e) refl refl refl refl
  symbol_takes a false e valid = settles_takes st items (begun.Symbol a) fed x valid (sexpr.Symbol a) refl refl (λ b h. absurd (cc)) (λ more. simple_symbol a.bytes valid.begun e)

  pub numeral_takes : (a : Atom) (t u : Bool) → continues_numeral a.bytes x ≡ t → is_symbol_byte x ≡ u → IsValid (at st items (begun.Numeral a) fed) → Takes (at st items (begun.Numeral a) fed) x (cond t (goes_on st items fed (begun.Numeral (longer a x))) (cond u (Stops 2 []) (settles st items fed (sexpr.Numeral a) x)))
  numeral_takes a true u e f valid = longer_takes st items (begun.Numeral a) fed x valid (begun.Numeral (longer a x)) (numeral_more a.bytes x valid.begun e) refl refl refl refl
  numeral_takes a false true e f valid = record {
    dead = λ more forms c.
        symbol_starts a.bytes (x ∷ more) valid.begun ⊥ (λ y ys z is.
        cut st (200 - length st) items a.place forms y ys is (subst (HasNoToken a.place) z (numeral_broken a.place a.bytes x more valid.begun e f)) ((relocate st _ _ items a.place a.place (a.bytes ++ x ∷ more) (y ∷ ys) forms refl refl z).0 c));
    why = broken a refl f;
  }
  numeral_takes a false false e f valid = settles_takes st items (begun.Numeral a) fed x valid (sexpr.Numeral a) refl refl (λ b h. numeral_end a b fed h valid.place) (λ more. numeral a.bytes valid.begun f)

  name_takes : (a : Atom) (name : List ℕ) → a.bytes ≡ name → continues_name name x ≡ false → IsValid (at st items (begun.Keyword a) fed) → Takes (at st items (begun.Keyword a) fed) x (after_name name st items fed a x)
  name_takes a [] n e valid = record {
    dead = λ more forms c. cut st (200 - length st) items a.place forms 58 (x ∷ more) refl (keyword_cut a.place (x ∷ more) e) ((relocate st _ _ items a.place a.place (58 ∷ (a.bytes ++ x ∷ more)) (58 ∷ x ∷ more) forms refl refl (ap (λ v. 58 ∷ (v ++ x ∷ more)) n)).0 c);
    why = colon a refl n e;
  }
  name_takes a (y ∷ ys) n e valid = settles_takes st items (begun.Keyword a) fed x valid (sexpr.Keyword a) (ap (λ v. name_form v a) n) refl (λ b h. absurd (cc)) (λ more. keyword a.bytes (subst IsSimpleSymbol (sym n) (subst IsNameSofar n valid.begun)) e)

  pub keyword_takes : (a : Atom) (t : Bool) → continues_name a.bytes x ≡ t → IsValid (at st items (begun.Keyword a) fed) → Takes (at st items (begun.Keyword a) fed) x (cond t (goes_on st items fed (begun.Keyword (longer a x))) (after_name a.bytes st items fed a x))
  keyword_takes a true e valid = longer_takes st items (begun.Keyword a) fed x valid (begun.Keyword (longer a x)) (name_more a.bytes x valid.begun e) refl refl refl refl
  keyword_takes a false e valid = name_takes a a.bytes refl e valid

  pub quoted_takes : (a : Atom) (t u : Bool) → (x == 124) ≡ t → is_quoted_byte x ≡ u → IsValid (at st items (begun.Quoted a) fed) → Takes (at st items (begun.Quoted a) fed) x (cond t (ends st items fed (sexpr.Symbol a)) (cond u (goes_on st items fed (begun.Quoted (longer a x))) (Stops 1 [])))
  quoted_takes a true u e f valid =
      let is : x ≡ 124 = eqb-true x 124 e in
      ends_takes st items (begun.Quoted a) fed x valid (sexpr.Symbol a) (λ b h. absurd (cc)) (λ more. subst (λ y. IsToken a.place more (124 ∷ (a.bytes ++ y ∷ [])) (sexpr.Symbol a)) (sym is) (quoted_symbol a.bytes valid.begun))
  quoted_takes a false true e f valid = longer_takes st items (begun.Quoted a) fed x valid (begun.Quoted (longer a x)) (list_all-more is_quoted_byte a.bytes x valid.begun f) refl refl refl refl
  quoted_takes a false false e f valid = record {
    dead = λ more forms c.
        cut st (200 - length st) items a.place forms 124 (a.bytes ++ x ∷ more) refl (quoted_cut a.place a.bytes (x ∷ more) valid.begun f (λ ys z. eqb-false x 124 e (cc))) c;
    why = inside (not_inside is_quoted_byte x (symbol_is_quoted x) f) (λ z. apart is_quoted_byte 40 x refl f (sym z)) (λ z. apart is_quoted_byte 41 x refl f (sym z)) refl;
  }

  pub text_takes : (a : Atom) (t u : Bool) → (x == 34) ≡ t → is_allowed x ≡ u → IsValid (at st items (begun.Text a) fed) → Takes (at st items (begun.Text a) fed) x (cond t (goes_on st items fed (begun.Quote a)) (cond u (goes_on st items fed (begun.Text (longer a x))) (Stops 1 [])))
  text_takes a true u e f valid =
      longer_takes st items (begun.Text a) fed x valid (begun.Quote a) valid.begun (ap (λ y. 34 ∷ (doubled a.bytes ++ y ∷ [])) (sym (eqb-true x 34 e))) refl refl refl
  text_takes a false true e f valid = longer_takes st items (begun.Text a) fed x valid (begun.Text (longer a x)) (list_all-more is_allowed a.bytes x valid.begun f) (ap (λ v. 34 ∷ v) (doubled_one a.bytes x e)) refl refl refl
  text_takes a false false e f valid = record {
    dead = λ more forms c.
        cut st (200 - length st) items a.place forms 34 (doubled a.bytes ++ x ∷ more) refl (string_cut a.place a.bytes (x ∷ more) valid.begun (λ z. absurd (eqb-false x 34 e z), λ z. f) (λ ys z. eqb-false x 34 e (cc))) c;
    why = inside (not_inside is_allowed x (symbol_is_allowed x) f) (λ z. apart is_allowed 40 x refl f (sym z)) (λ z. apart is_allowed 41 x refl f (sym z)) refl;
  }

  pub quote_takes : (a : Atom) (t : Bool) → (x == 34) ≡ t → IsValid (at st items (begun.Quote a) fed) → Takes (at st items (begun.Quote a) fed) x (cond t (goes_on st items fed (begun.Text (longer a x))) (settles st items fed (sexpr.Text a) x))
  quote_takes a true e valid =
      let is : x ≡ 34 = eqb-true x 34 e in
      longer_takes st items (begun.Quote a) fed x valid (begun.Text (longer a x)) (list_all-more is_allowed a.bytes x valid.begun (rw is refl))
      (ap (λ v. 34 ∷ v) (ap (λ y. doubled (a.bytes ++ y ∷ [])) is ∙ doubled-append a.bytes (34 ∷ []) ∙ sym (append_assoc (doubled a.bytes) (34 ∷ []) (34 ∷ [])) ∙ ap (λ y. (doubled a.bytes ++ 34 ∷ []) ++ y ∷ []) (sym is))) refl refl refl
  quote_takes a false e valid = settles_takes st items (begun.Quote a) fed x valid (sexpr.Text a) refl refl (λ b h. absurd (cc)) (λ more. string a.bytes valid.begun e)

  comment_takes : (t : Bool) → is_line_end x ≡ t → IsValid (at st items begun.Comment fed) → Takes (at st items begun.Comment fed) x (goes_on st items fed (cond t begun.Nothing begun.Comment))
  comment_takes true e valid =
      let place : (fed - 1) + 1 + 1 ≡ fed + 1 = omega (arith, valid.place) in
      record {
        valid = record { levels = valid.levels; given = valid.given; begun = tt; place = omega arith };
        fed = refl;
        last = λ bytes h. (bytes ++ x ∷ [], sym (append-nil (bytes ++ x ∷ [])));
        numerals = no_numerals (fed + 1);
        same = λ more forms. plain _ _ forms (iff_trans (comment_off st (200 - length st) items (fed - 1) forms x more e) (relocate st _ _ items _ (fed + 1) more more forms refl place refl));
      }
  comment_takes false e valid =
      let place : (fed - 1) + 1 ≡ fed + 1 - 1 = omega (arith, valid.place) in
      record {
        valid = record { levels = valid.levels; given = valid.given; begun = tt; place = omega (arith, valid.place) };
        fed = refl;
        last = λ bytes h. (bytes ++ x ∷ [], sym (append-nil (bytes ++ x ∷ [])));
        numerals = no_numerals (fed + 1);
        same = λ more forms. plain _ _ forms (iff_trans (comment_on st (200 - length st) items (fed - 1) forms x more e) (relocate st _ _ items _ (fed + 1 - 1) (59 ∷ more) (59 ∷ more) forms refl place refl));
      }

pub advance_takes : (b : Begun) (st : List Opened) (items : List Sexpr) (fed x : ℕ) → IsValid (at st items b fed) → Takes (at st items b fed) x (advance b st items fed x)
advance_takes begun.Nothing st items fed x valid = begins_takes st items fed x valid.levels valid.given
advance_takes begun.Comment st items fed x valid = comment_takes st items fed x (is_line_end x) refl valid
advance_takes (begun.Symbol a) st items fed x valid = symbol_takes st items fed x a (is_symbol_byte x) refl valid
advance_takes (begun.Numeral a) st items fed x valid = numeral_takes st items fed x a (continues_numeral a.bytes x) (is_symbol_byte x) refl refl valid
advance_takes (begun.Keyword a) st items fed x valid = keyword_takes st items fed x a (continues_name a.bytes x) refl valid
advance_takes (begun.Quoted a) st items fed x valid = quoted_takes st items fed x a (x == 124) (is_quoted_byte x) refl refl valid
advance_takes (begun.Text a) st items fed x valid = text_takes st items fed x a (x == 34) (is_allowed x) refl refl valid
advance_takes (begun.Quote a) st items fed x valid = quote_takes st items fed x a (x == 34) refl valid
