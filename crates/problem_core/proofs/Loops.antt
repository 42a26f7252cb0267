-- Items that are written one after the other into a list.
use Rattle.std.proofs.Common.{◌≡◌, ℕ, suc, ◌+◌, ◌<◌, Some, List, [], ◌∷◌, ◌++◌, map, drop, length, take, slice_get, get_or, refl, sym, ap, ◌∙◌, arith, append_assoc, append-nil}
use Rattle.std.specs.List.{flat_map}
use Rattle.std.proofs.lemmas.Grind.{flat_map-append}
use Rattle.std.proofs.lemmas.List.{drop_more, take_more}
use Rattle.std.proofs.lemmas.Option.{unwrap_or-slice_get}
use Rattle.std.specs.Option.{unwrap_or}
use Rattle.sig_core.specs.Lists.{numbers_from}
use Rattle.sexpr_core.specs.declared.form.Sexpr.{Sexpr}
use Rattle.sexpr_core.specs.Texts.{form_text, gap_before, joined, joined_from}

-- what was written and the items that are left, from place k on, make the whole
abbrev pub Left : {X : Type 0} (f : X → Sexpr) (all : List X) (k : ℕ) (left : List X) (old now : List ℕ) → Type 0
Left f all k left old now = now ++ joined_from k (map form_text (map f left)) ≡ old ++ joined (map form_text (map f all))

pub put_one : {X : Type 0} (f : X → Sexpr) (all : List X) (k : ℕ) (x : X) (left rest : List X) (old now gapped new : List ℕ) →
    left ≡ x ∷ rest → Left f all k left old now → gapped ≡ now ++ gap_before k → new ≡ gapped ++ form_text (f x) → Left f all (k + 1) rest old new
put_one f all k x left rest old now gapped new here had first second =
    let gap = gap_before k in
    let text = form_text (f x) in
    let after = joined_from (suc k) (map form_text (map f rest)) in
    let next : k + 1 ≡ suc k = omega arith in
    ap (λ j. new ++ joined_from j (map form_text (map f rest))) next ∙ ap (λ n. n ++ after) (second ∙ ap (λ n. n ++ text) first)
    ∙ append_assoc (now ++ gap) text after ∙ append_assoc now gap (text ++ after) ∙ ap (λ t. now ++ t) (sym (append_assoc gap text after))
    ∙ ap (λ t. now ++ joined_from k (map form_text (map f t))) (sym here) ∙ had

pub put_all : {X : Type 0} (f : X → Sexpr) (all : List X) (k : ℕ) (left : List X) (old now : List ℕ) → left ≡ [] → Left f all k left old now → now ≡ old ++ joined (map form_text (map f all))
put_all f all k left old now none had = sym (append-nil now) ∙ ap (λ t. now ++ joined_from k (map form_text (map f t))) (sym none) ∙ had

-- the item in a place stands before those after it
pub drop_at : {X : Type 0} (xs : List X) (i : ℕ) (x : X) → i < length xs → slice_get xs i ≡ Some x → drop i xs ≡ x ∷ drop (i + 1) xs
drop_at xs i x within is = drop_more xs i x within ∙ ap (λ y. y ∷ drop (i + 1) xs) (sym (unwrap_or-slice_get xs i x) ∙ ap (λ o. unwrap_or o x) is)

pub numbers_at : {X : Type 0} (xs : List X) (i : ℕ) → i < length xs → numbers_from i (drop i xs) ≡ i ∷ numbers_from (i + 1) (drop (i + 1) xs)
numbers_at [] i within = absurd (omega arith)
numbers_at (x ∷ xs) i within = ap (numbers_from i) (drop_more (x ∷ xs) i x within) ∙ (let next : suc i ≡ i + 1 = omega arith in ap (λ j. i ∷ numbers_from j (drop (i + 1) (x ∷ xs))) next)

pub one_more : {X : Type 0} (f : X → List ℕ) (xs : List X) (i : ℕ) (d : X) (old : List ℕ) {now new : List ℕ} → i < length xs
    → now ≡ old ++ flat_map f (take i xs) → new ≡ now ++ f (get_or xs i d) → new ≡ old ++ flat_map f (take (i + 1) xs)
one_more f xs i d old {now} {new} below had e =
    let more : flat_map f (take (i + 1) xs) ≡ flat_map f (take i xs) ++ (f (get_or xs i d) ++ []) = ap (flat_map f) (take_more xs i d below) ∙ flat_map-append f (take i xs) (get_or xs i d ∷ []) in
    e ∙ ap (λ t. t ++ f (get_or xs i d)) had ∙ append_assoc old (flat_map f (take i xs)) (f (get_or xs i d))
    ∙ ap (λ t. old ++ (flat_map f (take i xs) ++ t)) (sym (append-nil (f (get_or xs i d)))) ∙ ap (λ t. old ++ t) (sym more)

-- A text that is written in pieces, one after the other.

pub pieces2 : (old x1 x2 : List ℕ) {a b text : List ℕ} → a ≡ old ++ x1 → b ≡ a ++ x2 → text ≡ x1 ++ x2 → b ≡ old ++ text
pieces2 old x1 x2 {a} {b} {text} p q t = q ∙ ap (λ y. y ++ x2) p ∙ append_assoc old x1 x2 ∙ ap (λ y. old ++ y) (sym t)

pub pieces3 : (old x1 x2 x3 : List ℕ) {a b c text : List ℕ} → a ≡ old ++ x1 → b ≡ a ++ x2 → c ≡ b ++ x3 → text ≡ x1 ++ (x2 ++ x3) → c ≡ old ++ text
pieces3 old x1 x2 x3 {a} {b} {c} {text} p q r t = pieces2 old (x1 ++ x2) x3 (pieces2 old x1 x2 p q refl) r (t ∙ sym (append_assoc x1 x2 x3))

pub pieces4 : (old x1 x2 x3 x4 : List ℕ) {a b c d text : List ℕ} → a ≡ old ++ x1 → b ≡ a ++ x2 → c ≡ b ++ x3 → d ≡ c ++ x4 → text ≡ x1 ++ (x2 ++ (x3 ++ x4)) → d ≡ old ++ text
pieces4 old x1 x2 x3 x4 {a} {b} {c} {d} {text} p q r s t = pieces3 old (x1 ++ x2) x3 x4 (pieces2 old x1 x2 p q refl) r s (t ∙ sym (append_assoc x1 x2 (x3 ++ x4)))

pub pieces5 : (old x1 x2 x3 x4 x5 : List ℕ) {a b c d e text : List ℕ} → a ≡ old ++ x1 → b ≡ a ++ x2 → c ≡ b ++ x3 → d ≡ c ++ x4 → e ≡ d ++ x5 → text ≡ x1 ++ (x2 ++ (x3 ++ (x4 ++ x5))) → e ≡ old ++ text
pieces5 old x1 x2 x3 x4 x5 {a} {b} {c} {d} {e} {text} p q r s u t = pieces4 old (x1 ++ x2) x3 x4 x5 (pieces2 old x1 x2 p q refl) r s u (t ∙ sym (append_assoc x1 x2 (x3 ++ (x4 ++ x5))))

pub pieces6 : (old x1 x2 x3 x4 x5 x6 : List ℕ) {a b c d e f text : List ℕ} → a ≡ old ++ x1 → b ≡ a ++ x2 → c ≡ b ++ x3 → d ≡ c ++ x4 → e ≡ d ++ x5 → f ≡ e ++ x6 → text ≡ x1 ++ (x2 ++ (x3 ++ (x4 ++ (x5 ++ x6)))) → f ≡ old ++ text
pieces6 old x1 x2 x3 x4 x5 x6 {a} {b} {c} {d} {e} {f} {text} p q r s u v t = pieces5 old (x1 ++ x2) x3 x4 x5 x6 (pieces2 old x1 x2 p q refl) r s u v (t ∙ sym (append_assoc x1 x2 (x3 ++ (x4 ++ (x5 ++ x6)))))

pub pieces7 : (old x1 x2 x3 x4 x5 x6 x7 : List ℕ) {a b c d e f g text : List ℕ} → a ≡ old ++ x1 → b ≡ a ++ x2 → c ≡ b ++ x3 → d ≡ c ++ x4 → e ≡ d ++ x5 → f ≡ e ++ x6 → g ≡ f ++ x7 → text ≡ x1 ++ (x2 ++ (x3 ++ (x4 ++ (x5 ++ (x6 ++ x7))))) → g ≡ old ++ text
pieces7 old x1 x2 x3 x4 x5 x6 x7 {a} {b} {c} {d} {e} {f} {g} {text} p q r s u v w t = pieces6 old (x1 ++ x2) x3 x4 x5 x6 x7 (pieces2 old x1 x2 p q refl) r s u v w (t ∙ sym (append_assoc x1 x2 (x3 ++ (x4 ++ (x5 ++ (x6 ++ x7))))))

pub pieces8 : (old x1 x2 x3 x4 x5 x6 x7 x8 : List ℕ) {a b c d e f g h text : List ℕ} → a ≡ old ++ x1 → b ≡ a ++ x2 → c ≡ b ++ x3 → d ≡ c ++ x4 → e ≡ d ++ x5 → f ≡ e ++ x6 → g ≡ f ++ x7 → h ≡ g ++ x8 → text ≡ x1 ++ (x2 ++ (x3 ++ (x4 ++ (x5 ++ (x6 ++ (x7 ++ x8)))))) → h ≡ old ++ text
pieces8 old x1 x2 x3 x4 x5 x6 x7 x8 {a} {b} {c} {d} {e} {f} {g} {h} {text} p q r s u v w y t = pieces7 old (x1 ++ x2) x3 x4 x5 x6 x7 x8 (pieces2 old x1 x2 p q refl) r s u v w y (t ∙ sym (append_assoc x1 x2 (x3 ++ (x4 ++ (x5 ++ (x6 ++ (x7 ++ x8)))))))

pub pieces9 : (old x1 x2 x3 x4 x5 x6 x7 x8 x9 : List ℕ) {a b c d e f g h i text : List ℕ} → a ≡ old ++ x1 → b ≡ a ++ x2 → c ≡ b ++ x3 → d ≡ c ++ x4 → e ≡ d ++ x5 → f ≡ e ++ x6 → g ≡ f ++ x7 → h ≡ g ++ x8 → i ≡ h ++ x9 → text ≡ x1 ++ (x2 ++ (x3 ++ (x4 ++ (x5 ++ (x6 ++ (x7 ++ (x8 ++ x9))))))) → i ≡ old ++ text
pieces9 old x1 x2 x3 x4 x5 x6 x7 x8 x9 {a} {b} {c} {d} {e} {f} {g} {h} {i} {text} p q r s u v w y z t = pieces8 old (x1 ++ x2) x3 x4 x5 x6 x7 x8 x9 (pieces2 old x1 x2 p q refl) r s u v w y z (t ∙ sym (append_assoc x1 x2 (x3 ++ (x4 ++ (x5 ++ (x6 ++ (x7 ++ (x8 ++ x9))))))))
