-- The number of looks.
use Rattle.std.proofs.Common.{◌≡◌, ◌+◌, ◌-◌, ◌<◌, inl, inr, ℕ, suc, Bool, List, [], ◌∷◌, ◌++◌, length, get_or, sum, refl, sym, ap, ap₂, ◌∙◌, subst, arith}
use Rattle.std.specs.List.{sum_by}
use Rattle.std.specs.declared.cmp.Ordering.TheVariants.{Less}
use Rattle.std.proofs.lemmas.Bool.{cases_lt}
use Rattle.std.proofs.lemmas.List.{get_or_append_left, get_or_push, length_push}
use Rattle.std.proofs.lemmas.List.Sums.{sum_by-cons, sum_by_push}
use Rattle.sig_core.specs.declared.ids.ConId.{ConId}
use Rattle.term_core.specs.declared.tree.Tree.{Tree}
use Rattle.term_core.specs.Terms.{term_cmp}
use Rattle.term_core.proofs.Order.{term_cmp-total}
use Rattle.grammar_core.specs.declared.ids.NtId.{NtId}
use Rattle.grammar_core.specs.declared.production.Nonterminal.{Nonterminal}
use Rattle.grammar_core.specs.Grammars.{Reaches, start}
use Rattle.lens_core.specs.Lenses.{risen}
use Rattle.lens_core.proofs.Rising.{one_rising}
use Rattle.lens_core.proofs.Staying.{risen_more}
use Rattle.class_core.specs.Leaders.{AreCandidates}
use Rattle.class_core.specs.Looks.{AreCandidateLists, IsCandidateCount, LooksRise, NoLooks, OneLooks}
use Rattle.class_core.proofs.Leading.{never_before_itself}

-- numbers that can't differ are equal
never_differ : (m n : ℕ) → ¬ ¬ (m ≡ n) → m ≡ n
never_differ m n h = elim (cases_lt m n) [
  | inl less ↦ absurd (h (λ e. omega arith))
  | inr above ↦ elim (cases_lt n m) [ inl less ↦ absurd (h (λ e. omega arith)) | inr also ↦ omega arith ]
]

-- lists that are as many, and each as long as the other at its place, are as long together
as_long : (xs ys : List (List Tree)) → length xs ≡ length ys → ((i : ℕ) → i < length xs → length (get_or xs i []) ≡ length (get_or ys i [])) → sum_by length xs ≡ sum_by length ys
as_long [] [] long each = refl
as_long [] (y ∷ ys) long each = absurd (omega arith)
as_long (x ∷ xs) [] long each = absurd (omega arith)
as_long (x ∷ xs) (y ∷ ys) long each =
    sum_by-cons length x xs ∙ ap₂ (λ a b. a + b) (each 0 (omega arith)) (as_long xs ys (omega arith) (λ i h. each (suc i) (omega arith))) ∙ sym (sum_by-cons length y ys)

-- numbers that are as many, and equal at each place, have one sum
one_sum : (xs ys : List ℕ) → length xs ≡ length ys → ((i : ℕ) → i < length xs → get_or xs i 0 ≡ get_or ys i 0) → sum xs ≡ sum ys
one_sum [] [] long each = refl
one_sum [] (y ∷ ys) long each = absurd (omega arith)
one_sum (x ∷ xs) [] long each = absurd (omega arith)
one_sum (x ∷ xs) (y ∷ ys) long each =
    sum_by-cons (λ n. n) x xs ∙ ap₂ (λ a b. a + b) (each 0 (omega arith)) (one_sum xs ys (omega arith) (λ i h. each (suc i) (omega arith))) ∙ sym (sum_by-cons (λ n. n) y ys)

module _ (grammar : List Nonterminal) (same : Tree → Tree → Type 0) (plain : ConId → ℕ → Bool) where
  one_candidates : (n : NtId) (k : ℕ) (ts us : List Tree) → AreCandidates grammar same plain n k ts → AreCandidates grammar same plain n k us → ts ≡ us
  one_candidates n k ts us a b =
      one_rising (λ t u. term_cmp t u ≡ Less) never_before_itself term_cmp-total.trans ts us a.ascending b.ascending (λ t c. (b.exact t).1 ((a.exact t).0 c)) (λ t c. (a.exact t).1 ((b.exact t).0 c))

  module _ (k count : ℕ) (xs ys : List (List Tree)) (p : AreCandidateLists grammar same plain k count xs) (q : AreCandidateLists grammar same plain k count ys) where
    one_length : (i : ℕ) → i < count → length (get_or xs i []) ≡ length (get_or ys i [])
    one_length i h = never_differ (length (get_or xs i [])) (length (get_or ys i [])) (λ differ.
        (let n : NtId = record { 0 = i } in
        let away : ¬ Reaches grammar start n = λ reached. differ (ap length (one_candidates n k (get_or xs i []) (get_or ys i []) (p.each n h reached) (q.each n h reached))) in
        differ (ap length (p.none n h away ∙ sym (q.none n h away)))))

    as_many : sum_by length xs ≡ sum_by length ys
    as_many = as_long xs ys (p.all ∙ sym q.all) (λ i h. one_length i (omega (arith, p.all)))

  one_count : (k a b : ℕ) → IsCandidateCount grammar same plain k a → IsCandidateCount grammar same plain k b → a ≡ b
  one_count k a b p q = p.is ∙ as_many k (length grammar) p.lists q.lists p.are q.are ∙ sym q.is

  pub one_looks : OneLooks grammar same plain
  one_looks last a b p q =
      p.total ∙ ap (risen 0) (one_sum p.counts q.counts (p.all ∙ sym q.all)
      (λ i h. (let low : i < last = omega (arith, p.all) in one_count (suc i) (get_or p.counts i 0) (get_or q.counts i 0) (p.counted i low) (q.counted i low)))) ∙ sym q.total

  pub no_looks : NoLooks grammar same plain
  no_looks = record { counts = []; all = refl; counted = λ k l. absurd (omega arith); total = omega arith }

  pub looks_rise : LooksRise grammar same plain
  looks_rise last old new before now = record {
    counts = before.counts ++ now.count ∷ [];
    all = length_push before.counts now.count ∙ (let next : length before.counts + 1 ≡ suc last = omega (arith, before.all) in next);
    counted = λ k h. elim (cases_lt k last) [
      | inl low ↦ subst (IsCandidateCount grammar same plain (suc k)) (sym (get_or_append_left before.counts (now.count ∷ []) 0 k (omega (arith, before.all)))) (before.counted k low)
      | inr high ↦ (let at : last ≡ k = omega arith in
          subst (IsCandidateCount grammar same plain (suc k)) (sym (get_or_push before.counts now.count 0 k (omega (arith, before.all))))
          (subst (λ j. IsCandidateCount grammar same plain (suc j) now.count) at now.counted))
    ];
    total = now.looks ∙ ap (λ i. risen i now.count) before.total ∙ risen_more 0 (sum before.counts) now.count ∙ ap (risen 0) (sym (sum_by_push (λ n. n) before.counts now.count));
  }
