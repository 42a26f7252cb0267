-- The order of terms, part by part.
use Rattle.std.proofs.Common.{◌≡◌, ℕ, ◌+◌, ◌-◌, ◌<◌, ◌≤◌, min, List, [], ◌∷◌, length, map, get_or, drop, sym, refl, ap₂, ◌∙◌, arith, Bool, true, false, not, eqb, ◌==◌}
use Rattle.std.proofs.lemmas.List.{drop_more, length-drop, length-map}
use Rattle.std.proofs.lemmas.Bool.Decides.{nat_tests}
use Rattle.std.specs.Ordering.{nat_cmp, ordering_then, ordering_reverse, ordering_index}
use Rattle.std.specs.Cmp.Lexicographic.{slice_cmp}
use Rattle.std.specs.declared.cmp.Ordering.{Ordering}
use Rattle.std.specs.declared.cmp.Ordering.TheVariants.{Less, Equal, Greater}
use Rattle.term_core.specs.declared.ids.TermId.{TermId}
use Rattle.term_core.specs.declared.tree.Tree.{Tree}
use Rattle.term_core.specs.Terms.{con_of, kids_of, size, term_cmp}
use Rattle.term_core.proofs.Order.{reverses}
use Rattle.term_core.proofs.Parts.{term_cmp-of}

own_reverse : (o : Ordering) → o ≡ ordering_reverse o → o ≡ Equal
own_reverse Less e = absurd cc
own_reverse Equal e = refl
own_reverse Greater e = absurd cc

pub itself_equal : (t : Tree) → term_cmp t t ≡ Equal
itself_equal t = own_reverse (term_cmp t t) (reverses t t)

not_equal : (m n : ℕ) (o : Ordering) → (m ≡ n → ⊥) → ordering_then (nat_cmp m n) o ≡ nat_cmp m n
not_equal m n o h = grind arith

same_numbers : (m n : ℕ) (o : Ordering) → m ≡ n → ordering_then (nat_cmp m n) o ≡ o
same_numbers m n o h = grind arith

pub by_size : (t u : Tree) (m n : ℕ) → m ≡ size t → n ≡ size u → (m ≡ n → ⊥) → nat_cmp m n ≡ term_cmp t u
by_size t u m n p q h =
    ap₂ nat_cmp p q
    ∙ sym (not_equal (size t) (size u) (ordering_then (nat_cmp (con_of t).0 (con_of u).0) (slice_cmp term_cmp (kids_of t) (kids_of u))) (λ e. h (p ∙ e ∙ sym q)))
    ∙ sym (term_cmp-of t u)

past_size : (t u : Tree) → size t ≡ size u → term_cmp t u ≡ ordering_then (nat_cmp (con_of t).0 (con_of u).0) (slice_cmp term_cmp (kids_of t) (kids_of u))
past_size t u e = term_cmp-of t u ∙ same_numbers (size t) (size u) (ordering_then (nat_cmp (con_of t).0 (con_of u).0) (slice_cmp term_cmp (kids_of t) (kids_of u))) e

pub by_con : (t u : Tree) (c d : ℕ) → size t ≡ size u → c ≡ (con_of t).0 → d ≡ (con_of u).0 → (c ≡ d → ⊥) → nat_cmp c d ≡ term_cmp t u
by_con t u c d e p q h =
    ap₂ nat_cmp p q
    ∙ sym (not_equal (con_of t).0 (con_of u).0 (slice_cmp term_cmp (kids_of t) (kids_of u)) (λ same. h (p ∙ same ∙ sym q)))
    ∙ sym (past_size t u e)

by_kids : (t u : Tree) → size t ≡ size u → (con_of t).0 ≡ (con_of u).0 → slice_cmp term_cmp (kids_of t) (kids_of u) ≡ term_cmp t u
by_kids t u e c = sym (past_size t u e ∙ same_numbers (con_of t).0 (con_of u).0 (slice_cmp term_cmp (kids_of t) (kids_of u)) c)

-- what is left of two lists of children, at the next of each
kids_from : (f : TermId → Tree) (ls rs : List TermId) (i : ℕ) (d : TermId) → i < length ls → i < length rs →
    slice_cmp term_cmp (map f (drop i ls)) (map f (drop i rs)) ≡ ordering_then (term_cmp (f (get_or ls i d)) (f (get_or rs i d))) (slice_cmp term_cmp (map f (drop (i + 1) ls)) (map f (drop (i + 1) rs)))
kids_from f ls rs i d p q = ap₂ (λ xs ys. slice_cmp term_cmp (map f xs) (map f ys)) (drop_more ls i d p) (drop_more rs i d q)

then_differs : (a b : Ordering) → (a ≡ Equal → ⊥) → ordering_then a b ≡ a
then_differs Less b h = refl
then_differs Equal b h = absurd (h refl)
then_differs Greater b h = refl

pub kids_differ : (f : TermId → Tree) (ls rs : List TermId) (i : ℕ) (d : TermId) → i < length ls → i < length rs →
    (term_cmp (f (get_or ls i d)) (f (get_or rs i d)) ≡ Equal → ⊥) → term_cmp (f (get_or ls i d)) (f (get_or rs i d)) ≡ slice_cmp term_cmp (map f (drop i ls)) (map f (drop i rs))
kids_differ f ls rs i d p q h =
    sym (kids_from f ls rs i d p q ∙ then_differs (term_cmp (f (get_or ls i d)) (f (get_or rs i d))) (slice_cmp term_cmp (map f (drop (i + 1) ls)) (map f (drop (i + 1) rs))) h)

-- what a test `order != Ordering::Equal` says
pub order_differs : (o : Ordering) (b : Bool) → b ≡ true → b ≡ not (ordering_index o == 1) → o ≡ Equal → ⊥
order_differs Less b p q e = cc
order_differs Equal b p q e = cc
order_differs Greater b p q e = cc

-- what a test `m != n` says
pub numbers_differ : (m n : ℕ) (b : Bool) → b ≡ true → b ≡ not (eqb m n) → m ≡ n → ⊥
numbers_differ m n b p q e = grind (arith, nat_tests)

pub numbers_agree : (m n : ℕ) (b : Bool) → b ≡ false → b ≡ not (eqb m n) → m ≡ n
numbers_agree m n b p q = grind (arith, nat_tests)

-- where sizes and constructors agree and the first i children are equal, the children from there on decide
pub kids_decide : (t u : Tree) (f : TermId → Tree) (ls rs : List TermId) (i : ℕ) → size t ≡ size u → (con_of t).0 ≡ (con_of u).0 → kids_of t ≡ map f ls → kids_of u ≡ map f rs
    → slice_cmp term_cmp (map f (drop i ls)) (map f (drop i rs)) ≡ slice_cmp term_cmp (map f ls) (map f rs)
    → slice_cmp term_cmp (map f (drop i ls)) (map f (drop i rs)) ≡ term_cmp t u
kids_decide t u f ls rs i sizes cons left right rest = rest ∙ sym (ap₂ (slice_cmp term_cmp) left right) ∙ by_kids t u sizes cons

short_cmp : (xs ys : List Tree) → min (length xs) (length ys) ≡ 0 → slice_cmp term_cmp xs ys ≡ nat_cmp (length xs) (length ys)
short_cmp [] [] h = refl
short_cmp [] (y ∷ ys) h = grind arith
short_cmp (x ∷ xs) [] h = grind arith
short_cmp (x ∷ xs) (y ∷ ys) h = absurd (omega arith)

both_less : (a b i : ℕ) → i ≤ a → i ≤ b → nat_cmp (a - i) (b - i) ≡ nat_cmp a b
both_less a b i p q = grind arith

-- where one list is at its end, the lengths decide
pub kids_end : (f : TermId → Tree) (ls rs : List TermId) (i : ℕ) → i ≡ min (length ls) (length rs) →
    nat_cmp (length ls) (length rs) ≡ slice_cmp term_cmp (map f (drop i ls)) (map f (drop i rs))
kids_end f ls rs i e =
    let left : length (map f (drop i ls)) ≡ length ls - i = length-map (drop i ls) f ∙ length-drop i ls in
    let right : length (map f (drop i rs)) ≡ length rs - i = length-map (drop i rs) f ∙ length-drop i rs in
    sym (short_cmp (map f (drop i ls)) (map f (drop i rs)) (omega arith) ∙ ap₂ nat_cmp left right ∙ both_less (length ls) (length rs) i (omega arith) (omega arith))
