-- The places of a term's subterms among its nodes.
use Rattle.std.proofs.Common.{◌≡◌, ◌<◌, ◌+◌, ℕ, zero, suc, true, false, not, cond, List, [], ◌∷◌, ◌++◌, length, get_or, AllPairs, Contains, refl, sym, ap, subst, ◌∙◌, arith}
use Rattle.std.specs.Ordering.{is_eq, ordering_reverse}
use Rattle.std.specs.declared.cmp.Ordering.{Ordering}
use Rattle.std.specs.declared.cmp.Ordering.TheVariants.{Less, Equal, Greater}
use Rattle.std.proofs.lemmas.List.{get_or_append_left, get_or_at, length-append}
use Rattle.term_core.specs.declared.tree.Tree.{Tree}
use Rattle.term_core.specs.Terms.{kids_of, term_cmp, AreNodesOf, IsSubterm}
use Rattle.term_core.proofs.Marking.{child_of_subterm}
use Rattle.term_core.proofs.Order.{term_cmp-total}
use Rattle.term_core.proofs.Parts.{child_first}
use Rattle.answer_core.specs.AnswerText.{place_of_node}

abbrev Rise : List Tree → Type 0
Rise nodes = AllPairs (λ s u. term_cmp s u ≡ Less) nodes

reversed : (o : Ordering) → o ≡ ordering_reverse o → is_eq o ≡ true
reversed Less e = absurd (cc)
reversed Equal e = refl
reversed Greater e = absurd (cc)

-- a term compares as equal to itself, and is not before itself
itself_equal : (t : Tree) → is_eq (term_cmp t t) ≡ true
itself_equal t = reversed (term_cmp t t) (term_cmp-total.antisymm t t)

not_before : (o : Ordering) → is_eq o ≡ true → o ≡ Less → ⊥
not_before o e f = absurd (let g : is_eq o ≡ false = ap is_eq f in cc)

pub not_before_itself : (t : Tree) → term_cmp t t ≡ Less → ⊥
not_before_itself t e = not_before (term_cmp t t) (itself_equal t) e

not_both : (s t : Tree) → term_cmp s t ≡ Less → term_cmp t s ≡ Less → ⊥
not_both s t e f = not_before (term_cmp s s) (itself_equal s) (term_cmp-total.trans s t s e f)

rest_rises : (t : Tree) (nodes : List Tree) → Rise (t ∷ nodes) → Rise nodes
rest_rises t nodes rise i j d less within = rise (suc i) (suc j) d (omega arith) (omega (arith, within))

-- the place of a node
pub place_found : (nodes : List Tree) → Rise nodes → (k : ℕ) (t : Tree) → k < length nodes → get_or nodes k t ≡ t → place_of_node nodes t ≡ k
place_found [] rise k t h e = absurd (omega (arith, h))
place_found (u ∷ nodes) rise zero t h e =
    let same : is_eq (term_cmp u t) ≡ true = ap (λ v. is_eq (term_cmp v t)) e ∙ itself_equal t in
    ap (λ b. cond (not b) (1 + place_of_node nodes t) 0) same
place_found (u ∷ nodes) rise (suc k) t h e =
    let before : term_cmp u t ≡ Less = subst (λ v. term_cmp u v ≡ Less) e (rise zero (suc k) t (omega arith) h) in
    let other : is_eq (term_cmp u t) ≡ false = ap is_eq before in
    let rest : place_of_node nodes t ≡ k = place_found nodes (rest_rises u nodes rise) k t (omega (arith, h)) e in
    ap (λ b. cond (not b) (1 + place_of_node nodes t) 0) other ∙ omega (arith, rest)

-- the term is the node with this number
pub record IsNodeAt (nodes : List Tree) (t : Tree) (k : ℕ) : Type 0 where
  pub within : k < length nodes
  pub is : get_or nodes k t ≡ t
  pub place : place_of_node nodes t ≡ k

pub node_placed : (nodes : List Tree) (t : Tree) → Rise nodes → Contains nodes t → IsNodeAt nodes t (place_of_node nodes t)
node_placed nodes t rise there =
    let place = place_found nodes rise there.0 t there.1 there.2 in record {
      within = omega (arith, place, there.1);
      is = ap (λ k. get_or nodes k t) place ∙ there.2;
      place = refl;
    }

same_default : (nodes : List Tree) (k : ℕ) (t u : Tree) → k < length nodes → get_or nodes k t ≡ get_or nodes k u
same_default [] k t u h = absurd (omega (arith, h))
same_default (v ∷ nodes) zero t u h = refl
same_default (v ∷ nodes) (suc k) t u h = same_default nodes k t u (omega (arith, h))

-- of two nodes the one that is before the other has the lower number
lower : (nodes : List Tree) (t kid : Tree) (k m : ℕ) → Rise nodes → IsNodeAt nodes t k → IsNodeAt nodes kid m → term_cmp kid t ≡ Less → m < k
lower nodes t kid k m rise at kid_at before = below equal later where
  below : (m ≡ k → ⊥) → (k < m → ⊥) → m < k
  below p q = grind arith

  equal : m ≡ k → ⊥
  equal same =
      let one : kid ≡ t = sym kid_at.is ∙ ap (λ i. get_or nodes i kid) same ∙ same_default nodes k kid t at.within ∙ at.is in
      not_before (term_cmp t t) (itself_equal t) (subst (λ v. term_cmp v t ≡ Less) one before)

  later : k < m → ⊥
  later less =
      let pair : term_cmp (get_or nodes k t) (get_or nodes m t) ≡ Less = rise k m t less kid_at.within in
      let second : get_or nodes m t ≡ kid = same_default nodes m t kid kid_at.within ∙ kid_at.is in
      not_both kid t before (sym (ap (λ v. term_cmp v (get_or nodes m t)) at.is ∙ ap (term_cmp t) second) ∙ pair)

-- a child of the node after the first ones is one of these
pub record IsEarlier (nodes earlier : List Tree) (kid : Tree) : Type 0 where
  pub below : place_of_node nodes kid < length earlier
  pub is : (d : Tree) → get_or earlier (place_of_node nodes kid) d ≡ kid

pub child_earlier : (root : Tree) (nodes earlier rest : List Tree) (t : Tree) → AreNodesOf root nodes → nodes ≡ earlier ++ t ∷ rest → (kid : Tree) → Contains (kids_of t) kid → IsEarlier nodes earlier kid
child_earlier root nodes earlier rest t listed split kid child =
    let k = length earlier in
    let within : k < length nodes = omega (arith, ap length split, length-append earlier (t ∷ rest)) in
    let is : get_or nodes k t ≡ t = ap (λ ns. get_or ns k t) split ∙ get_or_at earlier t rest t k refl in
    let there : Contains nodes t = (k, within, is) in
    let sub : IsSubterm kid root = child_of_subterm kid ((listed.subterms t).0 there) child in
    let kid_at = node_placed nodes kid listed.ascending ((listed.subterms kid).1 sub) in
    let at : IsNodeAt nodes t k = record { within = within; is = is; place = place_found nodes listed.ascending k t within is } in
    let less = lower nodes t kid k (place_of_node nodes kid) listed.ascending at kid_at (child_first t kid child) in record {
      below = less;
      is = λ d.
          same_default earlier (place_of_node nodes kid) d kid less ∙ sym (get_or_append_left earlier (t ∷ rest) kid (place_of_node nodes kid) less)
          ∙ sym (ap (λ ns. get_or ns (place_of_node nodes kid) kid) split) ∙ kid_at.is;
    }
