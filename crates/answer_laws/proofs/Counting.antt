-- A term has no more nodes than constructors, and its text nests less deep than that.
use Rattle.std.proofs.Common.{◌≡◌, ℕ, zero, suc, ◌+◌, ◌<◌, ◌≤◌, ◌⊎◌, inl, inr, List, [], ◌∷◌, ◌++◌, map, sum, length, get_or, All, AllPairs, Contains, refl, sym, subst, ◌∙◌, arith}
use Rattle.std.specs.declared.cmp.Ordering.TheVariants.{Less}
use Rattle.std.proofs.lemmas.List.{length-append}
use Rattle.std.proofs.lemmas.List.Elements.{All-contains_itself, All-head, All-tail}
use Rattle.std.proofs.lemmas.List.Sums.{sum_by-cons}
use Rattle.sexpr_core.specs.Sizes.{greatest}
use Rattle.sig_core.specs.declared.ids.ConId.{ConId}
use Rattle.term_core.specs.declared.tree.Tree.{Tree}
use Rattle.term_core.specs.Terms.{kids_of, node, size, term_cmp, AreNodesOf, IsSubterm, itself, below}
use Rattle.term_core.proofs.Induction.{by_children}
use Rattle.term_core.proofs.Order.{size-node}
use Rattle.term_core.proofs.Parts.{kids_of-node}
use Rattle.answer_laws.specs.Names.{term_nesting}
use Rattle.answer_laws.proofs.Places.{not_before_itself}
use Rattle.answer_laws.proofs.Terms.{nesting-node}

-- Among how many items others stand once each.

module _ {X : Type 0} where
  cases : (x y : X) (xs : List X) → Contains (x ∷ xs) y → (x ≡ y) ⊎ Contains xs y
  cases x y xs (zero, h, e) = inl e
  cases x y xs (suc k, h, e) = inr (k, omega (arith, h), e)

  later : (x y : X) (xs : List X) → Contains xs y → Contains (x ∷ xs) y
  later x y xs (k, h, e) = (suc k, omega (arith, h), e)

  left : (xs ys : List X) (y : X) → Contains xs y → Contains (xs ++ ys) y
  left [] ys y (k, h, e) = absurd (omega (arith, h))
  left (x ∷ xs) ys y there = elim (cases x y xs there) [ inl same ↦ (zero, omega arith, same) | inr rest ↦ later x y (xs ++ ys) (left xs ys y rest) ]

  right : (xs ys : List X) (y : X) → Contains ys y → Contains (xs ++ ys) y
  right [] ys y there = there
  right (x ∷ xs) ys y there = later x y (xs ++ ys) (right xs ys y there)

  removed : ℕ → List X → List X
  removed k [] = []
  removed zero (x ∷ xs) = xs
  removed (suc k) (x ∷ xs) = x ∷ removed k xs

  length-removed : (k : ℕ) (xs : List X) → k < length xs → suc (length (removed k xs)) ≤ length xs
  unfolding removed
  length-removed k [] h = absurd (omega (arith, h))
  length-removed zero (x ∷ xs) h = omega arith
  length-removed (suc k) (x ∷ xs) h = omega (arith, length-removed k xs (omega (arith, h)))

  still_there : (k : ℕ) (ys : List X) (x y : X) → k < length ys → get_or ys k x ≡ x → Contains ys y → (x ≡ y → ⊥) → Contains (removed k ys) y
  unfolding removed
  still_there k [] x y h e there other = absurd (omega (arith, h))
  still_there zero (z ∷ zs) x y h e there other = elim (cases z y zs there) [ inl same ↦ absurd (other (sym e ∙ same)) | inr rest ↦ rest ]
  still_there (suc k) (z ∷ zs) x y h e there other =
      elim (cases z y zs there) [ inl same ↦ (zero, omega arith, same) | inr rest ↦ later z y (removed k zs) (still_there k zs x y (omega (arith, h)) e rest other) ]

  -- items that are apart, each of which stands among others, are no more than these
  pub no_more : (R : X → X → Type 0) → ((x : X) → R x x → ⊥) → (xs ys : List X) → AllPairs R xs → All (Contains ys) xs → length xs ≤ length ys
  no_more R apart [] ys pairs all = omega arith
  no_more R apart (x ∷ xs) ys pairs all =
      let here : Contains ys x = all zero x (omega arith) in
      let rest : All (Contains (removed here.0 ys)) xs = λ j d h.
      still_there here.0 ys x (get_or xs j d) here.1 here.2 (all (suc j) d (omega (arith, h))) (λ same. apart x (subst (R x) (sym same) (pairs zero (suc j) d (omega arith) (omega (arith, h))))) in
      let tail : AllPairs R xs = λ i j d less h. pairs (suc i) (suc j) d (omega (arith, less)) (omega (arith, h)) in
      let fewer = no_more R apart xs (removed here.0 ys) tail rest in
      let one = length-removed here.0 ys here.1 in
      omega (arith, fewer, one)

-- The subterms of a term.

record HasSubterms (t : Tree) : Type 0 where
  all : List Tree
  count : length all ≡ size t
  each : (s : Tree) → IsSubterm s t → Contains all s

record HaveSubterms (kids : List Tree) : Type 0 where
  all : List Tree
  count : length all ≡ sum (map size kids)
  each : (s kid : Tree) → Contains kids kid → IsSubterm s kid → Contains all s

kids_subterms : (kids : List Tree) → All HasSubterms kids → HaveSubterms kids
kids_subterms [] all = record { all = []; count = refl; each = λ s kid child sub. absurd (omega (arith, child.1)) }
kids_subterms (kid ∷ kids) all =
    let first = All-head HasSubterms kid kids all in
    let rest = kids_subterms kids (All-tail HasSubterms kid kids all) in
    let total : sum (map size (kid ∷ kids)) ≡ size kid + sum (map size kids) = sum_by-cons (λ n. n) (size kid) (map size kids) in record {
      all = first.all ++ rest.all;
      count = omega (arith, length-append first.all rest.all, first.count, rest.count, total);
      each = λ s other child sub. elim (cases kid other kids child) [
        | inl same ↦ left first.all rest.all s (first.each s (subst (IsSubterm s) (sym same) sub))
        | inr more ↦ right first.all rest.all s (rest.each s other more sub)
      ];
    }

parts_of_subterm : {s t : Tree} → IsSubterm s t → (s ≡ t) ⊎ ((kid : Tree) × Contains (kids_of t) kid × IsSubterm s kid)
parts_of_subterm itself = inl refl
parts_of_subterm (below {kid = kid} child inside) = inr (kid, child, inside)

has_subterms : (t : Tree) → HasSubterms t
has_subterms = by_children HasSubterms step where
  step : (con : ConId) (kids : List Tree) → All HasSubterms kids → HasSubterms (node con kids)
  step con kids all =
      let inside = kids_subterms kids all in record {
        all = node con kids ∷ inside.all;
        count = omega (arith, inside.count, size-node con kids);
        each = λ s sub. elim (parts_of_subterm sub) [
          | inl same ↦ (zero, omega arith, sym same)
          | inr more ↦ later (node con kids) s inside.all (inside.each s more.0 (subst (λ ks. Contains ks more.0) (kids_of-node con kids) more.1) more.2)
        ];
      }

-- a term has no more nodes than constructors
pub few_nodes : (t : Tree) (nodes : List Tree) → AreNodesOf t nodes → length nodes ≤ size t
few_nodes t nodes listed =
    let subterms = has_subterms t in
    let all : All (Contains subterms.all) nodes = λ k d h. subterms.each (get_or nodes k d) ((listed.subterms (get_or nodes k d)).0 (in_list nodes k d h)) in
    omega (arith, no_more (λ s u. term_cmp s u ≡ Less) not_before_itself nodes subterms.all listed.ascending all, subterms.count)
  where
    in_list : (xs : List Tree) (k : ℕ) (d : Tree) → k < length xs → Contains xs (get_or xs k d)
    in_list xs k d h = All-contains_itself xs k d h

-- The depth of a term.

kids_nest : (kids : List Tree) → All (λ t. term_nesting t < size t) kids → greatest (map term_nesting kids) ≤ sum (map size kids)
kids_nest [] all = omega arith
kids_nest (kid ∷ kids) all =
    let P : Tree → Type 0 = λ t. term_nesting t < size t in
    omega (arith, All-head P kid kids all, kids_nest kids (All-tail P kid kids all), sum_by-cons (λ n. n) (size kid) (map size kids))

-- the text of a term nests less deep than the term has constructors
pub nests_less : (t : Tree) → term_nesting t < size t
nests_less = by_children (λ t. term_nesting t < size t) step where
  step : (con : ConId) (kids : List Tree) → All (λ t. term_nesting t < size t) kids → term_nesting (node con kids) < size (node con kids)
  step con [] all = omega (arith, nesting-node con [], size-node con [])
  step con (kid ∷ kids) all =
      let first : term_nesting kid < size kid = All-head (λ t. term_nesting t < size t) kid kids all in
      let rest = kids_nest kids (All-tail (λ t. term_nesting t < size t) kid kids all) in
      omega (arith, first, rest, nesting-node con (kid ∷ kids), size-node con (kid ∷ kids), sum_by-cons (λ n. n) (size kid) (map size kids))
