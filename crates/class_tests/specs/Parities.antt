-- Terms whose sizes are both even or both odd, and the law of the lens that sees them as one.
use Rattle.std.proofs.Common.{◌≡◌, ◌↔◌, ℕ, suc, ◌%◌, true, List, [], ◌∷◌, map, sum, refl, sym, ◌∙◌, arith}
use Rattle.std.specs.Ordering.{nat_cmp}
use Rattle.std.specs.declared.cmp.Ordering.TheVariants.{Equal}
use Rattle.std.proofs.lemmas.List.Sums.{sum_by-cons}
use Rattle.sig_core.specs.Signatures.{Declarations}
use Rattle.term_core.specs.declared.tree.Tree.{Tree}
use Rattle.term_core.specs.Terms.{size}
use Rattle.term_core.proofs.Order.{size-node}
use Rattle.lens_core.specs.Lenses.{AreMatched, IsCongruent, IsSameness}

-- the rest of the size at the division by two
abbrev pub parity : Tree → ℕ
parity t = size t % 2

abbrev pub SameParity : Tree → Tree → Type 0
SameParity t u = parity t ≡ parity u

equal_numbers : (m n : ℕ) → nat_cmp m n ≡ Equal → m ≡ n
equal_numbers m n e = grind arith

one_number : (m n : ℕ) → m ≡ n → nat_cmp m n ≡ Equal
one_number m n e = grind arith

pub parities_compare : (t u : Tree) (m n : ℕ) → m ≡ parity t → n ≡ parity u → (nat_cmp m n ≡ Equal) ↔ SameParity t u
parities_compare t u m n p q = (λ e. sym p ∙ equal_numbers m n e ∙ q, λ e. one_number m n (p ∙ e ∙ sym q))

pub parity_sameness : (sig : Declarations) → IsSameness sig SameParity
parity_sameness sig = record { itself = λ t h. refl; back = λ t u e. sym e; onward = λ t u v e f. e ∙ f }

sums : (i : ℕ) (ts us : List Tree) → AreMatched SameParity (λ _. true) i ts us → sum (map size ts) % 2 ≡ sum (map size us) % 2
sums i [] [] all = refl
sums i [] (u ∷ us) all = absurd all
sums i (t ∷ ts) [] all = absurd all
sums i (t ∷ ts) (u ∷ us) all =
    let first : size t % 2 ≡ size u % 2 = all.0 in
    let rest = sums (suc i) ts us all.1 in
    let one = sum_by-cons (λ n. n) (size t) (map size ts) in
    let other = sum_by-cons (λ n. n) (size u) (map size us) in
    omega arith

pub parity_congruent : (sig : Declarations) → IsCongruent sig (λ _ _. true) SameParity
parity_congruent sig con ts us h k all =
    let rest = sums 0 ts us all in
    omega (arith, size-node con ts, size-node con us)
