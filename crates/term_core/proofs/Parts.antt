-- A term and its parts.
use Rattle.std.proofs.Common.{◌≡◌, ◌≤◌, ◌<◌, ◌+◌, ℕ, zero, suc, List, [], ◌∷◌, map, sum, length, get_or, Contains, sym, ap, ap₂, ◌∙◌, arith, rules}
use Rattle.std.proofs.lemmas.List.Sums.{sum_by-cons}
use Rattle.std.specs.Ordering.{nat_cmp, ordering_then}
use Rattle.std.specs.Cmp.Lexicographic.{slice_cmp}
use Rattle.std.specs.declared.cmp.Ordering.{Ordering}
use Rattle.std.specs.declared.cmp.Ordering.TheVariants.{Less}
use Rattle.sig_core.specs.declared.ids.ConId.{ConId}
use Rattle.term_core.specs.declared.tree.Tree.{Tree, the_lemmas}
use Rattle.term_core.specs.Terms.{node, con_of, kids_of, size, term_cmp}
use Rattle.term_core.proofs.Order.{size-node, term_cmp-node}

pub con_of-node : (con : ConId) (kids : List Tree) → con_of (node con kids) ≡ con
con_of-node con kids = search (rules, the_lemmas)

pub kids_of-node : (con : ConId) (kids : List Tree) → kids_of (node con kids) ≡ kids
kids_of-node con kids = search (rules, the_lemmas)

-- a term is its constructor over its children
pub rolled : (t : Tree) → node (con_of t) (kids_of t) ≡ t
rolled t = search (rules, the_lemmas)

pub same_con : (c d : ConId) (ks ls : List Tree) → node c ks ≡ node d ls → c ≡ d
same_con c d ks ls e = sym (con_of-node c ks) ∙ ap con_of e ∙ con_of-node d ls

pub same_kids : (c d : ConId) (ks ls : List Tree) → node c ks ≡ node d ls → ks ≡ ls
same_kids c d ks ls e = sym (kids_of-node c ks) ∙ ap kids_of e ∙ kids_of-node d ls

pub size_of : (t : Tree) → size t ≡ 1 + sum (map size (kids_of t))
size_of t = ap size (sym (rolled t)) ∙ size-node (con_of t) (kids_of t)

size_le_sum : (ks : List Tree) (kid : Tree) (k : ℕ) → k < length ks → get_or ks k kid ≡ kid → size kid ≤ sum (map size ks)
size_le_sum [] kid k h e = absurd (omega arith)
size_le_sum (x ∷ xs) kid zero h e =
    let same : size x ≡ size kid = ap size e in
    let total : sum (map size (x ∷ xs)) ≡ size x + sum (map size xs) = sum_by-cons (λ n. n) (size x) (map size xs) in
    omega arith
size_le_sum (x ∷ xs) kid (suc k) h e =
    let total : sum (map size (x ∷ xs)) ≡ size x + sum (map size xs) = sum_by-cons (λ n. n) (size x) (map size xs) in
    omega (arith, size_le_sum xs kid k (omega arith) e)

pub size_of_child : (t kid : Tree) → Contains (kids_of t) kid → size kid < size t
size_of_child t kid h = omega (arith, size_of t, size_le_sum (kids_of t) kid h.0 h.1 h.2)

cmp_less : (m n : ℕ) (o : Ordering) → m < n → ordering_then (nat_cmp m n) o ≡ Less
cmp_less m n o h = grind arith

pub term_cmp-of : (t u : Tree) → term_cmp t u ≡ ordering_then (nat_cmp (size t) (size u)) (ordering_then (nat_cmp (con_of t).0 (con_of u).0) (slice_cmp term_cmp (kids_of t) (kids_of u)))
term_cmp-of t u =
    ap₂ term_cmp (sym (rolled t)) (sym (rolled u)) ∙ term_cmp-node (con_of t) (con_of u) (kids_of t) (kids_of u)
    ∙ ap₂ (λ x y. ordering_then (nat_cmp (size x) (size y)) (ordering_then (nat_cmp (con_of t).0 (con_of u).0) (slice_cmp term_cmp (kids_of t) (kids_of u)))) (rolled t) (rolled u)

-- a smaller term is before a larger one
pub smaller_first : (t u : Tree) → size t < size u → term_cmp t u ≡ Less
smaller_first t u h = term_cmp-of t u ∙ cmp_less (size t) (size u) (ordering_then (nat_cmp (con_of t).0 (con_of u).0) (slice_cmp term_cmp (kids_of t) (kids_of u))) h

pub child_first : (t kid : Tree) → Contains (kids_of t) kid → term_cmp kid t ≡ Less
child_first t kid h = smaller_first kid t (size_of_child t kid h)
