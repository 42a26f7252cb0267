-- std's quotient and remainder are a division, and the only one.
use Rattle.std.proofs.Common.{◌≡◌, ◌≢◌, ℕ, zero, suc, ◌+◌, ◌-◌, ◌*◌, ◌/◌, ◌%◌, ◌<◌, ℤ, pos, negsuc, neg_ℤ, ◌+ℤ◌, ◌*ℤ◌, ◌<ℤ◌, ◌≤ℤ◌, false, nat_eq, None, refl, sym, ap, ◌∙◌, subst, arith}
use Rattle.std.specs.Int.{int_div_euclid, int_rem_euclid}
use Rattle.std.proofs.lemmas.Bool.{ne_eqb, cond-false}
use Rattle.std.proofs.lemmas.Int.{ints}
use Rattle.std.proofs.lemmas.Nat.{div-mul-add}
use Rattle.sig_core.specs.Values.{ranged}
use Rattle.std.specs.Int.RustNames.{unsigned_abs}
use Rattle.expr_core.specs.Division.{IsDivision, quotient, remainder}
use Rattle.expr_core.specs.Laws.{DivisionExists, DivisionIsUnique}

neg_sum : (a p d : ℕ) → suc a + d ≡ p → negsuc a ≡ neg_ℤ (pos p) +ℤ pos d
neg_sum a p d h = omega (arith, ints)

-- a divisor's sign moves to the quotient
flip : (b : ℕ) (q : ℤ) → negsuc b *ℤ q ≡ pos (suc b) *ℤ neg_ℤ q
flip b (pos zero) = omega (arith, ints)
flip b (pos (suc c)) = refl
flip b (negsuc c) = refl

neg-neg : (z : ℤ) → neg_ℤ (neg_ℤ z) ≡ z
neg-neg (pos zero) = refl
neg-neg (pos (suc c)) = refl
neg-neg (negsuc c) = refl

by_positive : (m : ℤ) (b : ℕ) → IsDivision m (pos (suc b)) (int_div_euclid m (pos (suc b))) (int_rem_euclid m (pos (suc b)))
by_positive (pos a) b = record {
  total = ap pos (omega arith);
  low = omega (arith, ints);
  high = let h : a % suc b < suc b = omega arith in omega (arith, ints);
}
by_positive (negsuc a) b =
    let h : a % suc b < suc b = omega arith in
    record {
      total = neg_sum a (suc b * suc (a / suc b)) (suc b - 1 - a % suc b) (omega arith);
      low = omega (arith, ints);
      high = omega (arith, ints);
    }

flipped_quotient : (m : ℤ) (b : ℕ) → neg_ℤ (int_div_euclid m (negsuc b)) ≡ int_div_euclid m (pos (suc b))
flipped_quotient (pos a) b = neg-neg (pos (a / suc b))
flipped_quotient (negsuc a) b = refl

flipped_remainder : (m : ℤ) (b : ℕ) → int_rem_euclid m (negsuc b) ≡ int_rem_euclid m (pos (suc b))
flipped_remainder (pos a) b = refl
flipped_remainder (negsuc a) b = refl

pub division : (m n : ℤ) → n ≢ pos 0 → IsDivision m n (int_div_euclid m n) (int_rem_euclid m n)
division m (pos zero) h = absurd (h refl)
division m (pos (suc b)) h = by_positive m b
division m (negsuc b) h =
    let e = by_positive m b in
    record {
      total = e.total ∙ ap (λ z. z +ℤ int_rem_euclid m (pos (suc b))) (ap (λ q. pos (suc b) *ℤ q) (sym (flipped_quotient m b)) ∙ sym (flip b (int_div_euclid m (negsuc b)))) ∙ ap (λ r. (negsuc b *ℤ int_div_euclid m (negsuc b)) +ℤ r) (sym (flipped_remainder m b));
      low = subst (λ r. pos 0 ≤ℤ r) (sym (flipped_remainder m b)) e.low;
      high = subst (λ r. r <ℤ pos (suc b)) (sym (flipped_remainder m b)) e.high;
    }

-- the quotient of naturals is the only one
only : (a b c d : ℕ) → d < b → a ≡ b * c + d → c ≡ a / b
only a b c d h e = let k : a ≡ c * b + d = omega arith in rw k (sym (div-mul-add c b d h))

only_positive : (m : ℤ) (b : ℕ) (q : ℤ) (d : ℕ) → m ≡ (pos (suc b) *ℤ q) +ℤ pos d → d < suc b → q ≡ int_div_euclid m (pos (suc b))
only_positive (pos a) b (pos c) d e h = ap pos (only a (suc b) c d h (let g : pos a ≡ pos (suc b * c + d) = e in omega (arith, ints)))
only_positive (pos a) b (negsuc c) d e h = absurd (let g : pos a ≡ neg_ℤ (pos (suc b * suc c)) +ℤ pos d = e in omega (arith, ints))
only_positive (negsuc a) b (pos c) d e h = absurd (let g : negsuc a ≡ pos (suc b * c + d) = e in omega (arith, ints))
only_positive (negsuc a) b (negsuc c) d e h =
    let g : negsuc a ≡ neg_ℤ (pos (suc b * suc c)) +ℤ pos d = e in
    let k : suc a + d ≡ suc b * suc c = omega (arith, ints) in
    ap negsuc (only a (suc b) c (suc b - 1 - d) (omega arith) (omega arith))

pub only_quotient : (m n q r : ℤ) → IsDivision m n q r → q ≡ int_div_euclid m n
only_quotient m n q (negsuc d) e = absurd (let l = e.low in omega (arith, ints))
only_quotient m (pos zero) q (pos d) e = absurd (let l = e.high in omega (arith, ints))
only_quotient m (pos (suc b)) q (pos d) e = only_positive m b q d e.total (let l = e.high in omega (arith, ints))
only_quotient m (negsuc b) q (pos d) e =
    let f : neg_ℤ q ≡ int_div_euclid m (pos (suc b)) = only_positive m b (neg_ℤ q) d (e.total ∙ ap (λ z. z +ℤ pos d) (flip b q)) (let l = e.high in omega (arith, ints)) in
    sym (neg-neg q) ∙ ap neg_ℤ (f ∙ sym (flipped_quotient m b)) ∙ neg-neg (int_div_euclid m (negsuc b))

nonzero : (m n q r : ℤ) → IsDivision m n q r → n ≢ pos 0
nonzero m n q r e z = let h = subst (λ k. r <ℤ pos (unsigned_abs k)) z e.high in let l = e.low in omega (arith, ints)

cancel : (x r s : ℤ) → x +ℤ r ≡ x +ℤ s → r ≡ s
cancel x r s h = omega (arith, ints)

pub only_remainder : (m n q r : ℤ) → IsDivision m n q r → r ≡ int_rem_euclid m n
only_remainder m n q r e =
    let kept = subst (λ k. m ≡ (n *ℤ k) +ℤ r) (only_quotient m n q r e) e.total in
    cancel (n *ℤ int_div_euclid m n) r (int_rem_euclid m n) (sym kept ∙ (division m n (nonzero m n q r e)).total)

by_nonzero : (m n : ℤ) → n ≢ pos 0 → (quotient m n ≡ ranged (int_div_euclid m n)) × (remainder m n ≡ ranged (int_rem_euclid m n))
by_nonzero m (pos zero) h = absurd (h refl)
by_nonzero m (pos (suc b)) h =
    let e : nat_eq (suc b) 0 ≡ false = ne_eqb (suc b) 0 (λ k. omega arith) in
    (cond-false (nat_eq (suc b) 0) None (ranged (int_div_euclid m (pos (suc b)))) e, cond-false (nat_eq (suc b) 0) None (ranged (int_rem_euclid m (pos (suc b)))) e)
by_nonzero m (negsuc b) h =
    let e : nat_eq (suc b) 0 ≡ false = ne_eqb (suc b) 0 (λ k. omega arith) in
    (cond-false (nat_eq (suc b) 0) None (ranged (int_div_euclid m (negsuc b))) e, cond-false (nat_eq (suc b) 0) None (ranged (int_rem_euclid m (negsuc b))) e)

pub division_exists : DivisionExists
division_exists m n h = (int_div_euclid m n, int_rem_euclid m n, division m n h)

pub division_is_unique : DivisionIsUnique
division_is_unique m n q r e =
    let said = by_nonzero m n (nonzero m n q r e) in
    (said.0 ∙ ap ranged (sym (only_quotient m n q r e)), said.1 ∙ ap ranged (sym (only_remainder m n q r e)))
