-- Operators that relate each operand to the next: from the left, and all at once.
use Rattle.std.proofs.Common.{◌≡◌, ℤ, Bool, true, false, ◌&&◌, if◌then◌else◌, Option, Some, None, option_map, option_and_then, List, [], ◌∷◌, map, refl, sym, ap, ap₂, ◌∙◌}
use Rattle.std.specs.List.{list_all}
use Rattle.std.specs.Prelude.{int_lt, int_le}
use Rattle.sig_core.specs.declared.value.Value.{Value}
use Rattle.sig_core.specs.declared.value.Value.TheVariants as value
use Rattle.sig_core.specs.declared.value.Sort.{Sort}
use Rattle.sig_core.specs.declared.value.Sort.TheVariants as sort
use Rattle.expr_core.specs.declared.expr.Op.{Op}
use Rattle.expr_core.specs.declared.expr.Op.TheVariants.{Equal, Less, AtMost, Greater, AtLeast}
use Rattle.sig_core.specs.Lists.{all_some, chain_from, chained}
use Rattle.sig_core.specs.Values.{sort_of, same_sort, same_value}
use Rattle.expr_core.specs.Operators.{applied, int_of, ints_to_bool, two_or_more}
use Rattle.expr_core.specs.Partials.{of_neighbours, neighbours_after}

pub same_sort-equal : (s t : Sort) → same_sort s t ≡ true → s ≡ t
same_sort-equal sort.Int sort.Int h = refl
same_sort-equal sort.Bool sort.Bool h = refl
same_sort-equal sort.Int sort.Bool h = cc
same_sort-equal sort.Bool sort.Int h = cc

-- the operator relates two numbers by r, and no others
pub record IsOfNumbers (op : Op) (r : ℤ → ℤ → Bool) : Type 0 where
  pub numbers : (m n : ℤ) → of_neighbours op (value.Int m) (value.Int n) ≡ Some (r m n)
  pub others : (m : ℤ) (b : Bool) → of_neighbours op (value.Int m) (value.Bool b) ≡ None
  pub meant : (vs : List Value) → applied op vs ≡ ints_to_bool r vs

chain_next : (r : ℤ → ℤ → Bool) (h : Bool) (m n : ℤ) (os : Option (List ℤ))
    → option_map (λ ms. value.Bool (chain_from r (h && r m n) n ms)) os ≡ option_map (λ ms. value.Bool (chain_from r h m ms)) (option_map (λ ms. n ∷ ms) os)
chain_next r h m n None = refl
chain_next r h m n (Some ms) = refl

after_numbers : (op : Op) (r : ℤ → ℤ → Bool) → IsOfNumbers op r → (h : Bool) (m : ℤ) (vs : List Value)
    → neighbours_after op h (value.Int m) vs ≡ option_map (λ ms. value.Bool (chain_from r h m ms)) (all_some (map int_of vs))
after_numbers op r is h m [] = refl
after_numbers op r is h m (value.Bool b ∷ vs) = ap (option_and_then (λ c. neighbours_after op (h && c) (value.Bool b) vs)) (is.others m b)
after_numbers op r is h m (value.Int n ∷ vs) =
    ap (option_and_then (λ c. neighbours_after op (h && c) (value.Int n) vs)) (is.numbers m n)
    ∙ after_numbers op r is (h && r m n) n vs
    ∙ chain_next r h m n (all_some (map int_of vs))

whole_chain : (r : ℤ → ℤ → Bool) (m n : ℤ) (os : Option (List ℤ))
    → option_map value.Bool (option_and_then (two_or_more (λ ms. Some (chained r ms))) (option_map (λ ms. m ∷ ms) (option_map (λ ms. n ∷ ms) os))) ≡ option_map (λ ms. value.Bool (chain_from r (true && r m n) n ms)) os
whole_chain r m n None = refl
whole_chain r m n (Some ms) = refl

pub from_number : (op : Op) (r : ℤ → ℤ → Bool) → IsOfNumbers op r → (m : ℤ) (second : Value) (more : List Value)
    → applied op (value.Int m ∷ second ∷ more) ≡ neighbours_after op true (value.Int m) (second ∷ more)
from_number op r is m (value.Bool b) more = is.meant (value.Int m ∷ value.Bool b ∷ more) ∙ sym (ap (option_and_then (λ c. neighbours_after op (true && c) (value.Bool b) more)) (is.others m b))
from_number op r is m (value.Int n) more =
    is.meant (value.Int m ∷ value.Int n ∷ more)
    ∙ whole_chain r m n (all_some (map int_of more))
    ∙ sym (after_numbers op r is (true && r m n) n more)
    ∙ sym (ap (option_and_then (λ c. neighbours_after op (true && c) (value.Int n) more)) (is.numbers m n))

pub less : IsOfNumbers Less int_lt
less = record { numbers = λ m n. refl; others = λ m b. refl; meant = λ vs. refl }

pub at_most : IsOfNumbers AtMost int_le
at_most = record { numbers = λ m n. refl; others = λ m b. refl; meant = λ vs. refl }

pub greater : IsOfNumbers Greater (λ m n. int_lt n m)
greater = record { numbers = λ m n. refl; others = λ m b. refl; meant = λ vs. refl }

pub at_least : IsOfNumbers AtLeast (λ m n. int_le n m)
at_least = record { numbers = λ m n. refl; others = λ m b. refl; meant = λ vs. refl }

-- the values have the sort of v
abbrev pub all_like : Value → List Value → Bool
all_like v vs = list_all (λ w. same_sort (sort_of v) (sort_of w)) vs

pub all_like-same : (v w : Value) (vs : List Value) → same_sort (sort_of v) (sort_of w) ≡ true → all_like w vs ≡ all_like v vs
all_like-same v w vs h = ap (λ s. list_all (λ u. same_sort s (sort_of u)) vs) (sym (same_sort-equal (sort_of v) (sort_of w) h))

after_equal-like : (h : Bool) (v w : Value) (vs : List Value) (t : Bool) → same_sort (sort_of v) (sort_of w) ≡ t
    → ((k : Bool) → neighbours_after Equal k w vs ≡ option_map value.Bool (if all_like w vs then Some (chain_from same_value k w vs) else None))
    → option_and_then (λ c. neighbours_after Equal (h && c) w vs) (if t then Some (same_value v w) else None) ≡ option_map value.Bool (if t && all_like v vs then Some (chain_from same_value (h && same_value v w) w vs) else None)
after_equal-like h v w vs false e rest = refl
after_equal-like h v w vs true e rest = rest (h && same_value v w) ∙ ap (λ b. option_map value.Bool (if b then Some (chain_from same_value (h && same_value v w) w vs) else None)) (all_like-same v w vs e)

pub after_equal : (h : Bool) (v : Value) (vs : List Value) → neighbours_after Equal h v vs ≡ option_map value.Bool (if all_like v vs then Some (chain_from same_value h v vs) else None)
after_equal h v [] = refl
after_equal h v (w ∷ vs) = after_equal-like h v w vs (same_sort (sort_of v) (sort_of w)) refl (λ k. after_equal k w vs)

pub from_equal : (first second : Value) (more : List Value) → applied Equal (first ∷ second ∷ more) ≡ neighbours_after Equal true first (second ∷ more)
from_equal first second more = sym (after_equal true first (second ∷ more))

pub relates : {op o : Op} {v w : Value} → op ≡ o → v ≡ w → ((second : Value) (more : List Value) → applied o (w ∷ second ∷ more) ≡ neighbours_after o true w (second ∷ more))
    → (second : Value) (more : List Value) → applied op (v ∷ second ∷ more) ≡ neighbours_after op true v (second ∷ more)
relates e k h second more = ap₂ (λ p u. applied p (u ∷ second ∷ more)) e k ∙ h second more ∙ sym (ap₂ (λ p u. neighbours_after p true u (second ∷ more)) e k)
