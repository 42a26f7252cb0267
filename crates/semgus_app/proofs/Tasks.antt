-- Words ask for one task at most.
use Rattle.std.proofs.Common.{◌≡◌, ◌≤◌, ℕ, List, [], ◌∷◌, length, get_or, codes, decimal, sym, ap, ◌∙◌, inl, inr, arith}
use Rattle.std.proofs.lemmas.Fmt.{decimal_injective}
use Rattle.semgus_app.specs.Tasks.{Task, solve, show, check, Asks, AreSolve}

same_number : (m n : ℕ) → m ≤ 1000 → n ≤ 1000 → decimal m ≡ decimal n → m ≡ n
same_number m n a b e = decimal_injective m n (omega arith) (omega arith) e

same_solve : (words : List (List ℕ)) (f g : List ℕ) (h k n l : ℕ) → AreSolve words f h n → AreSolve words g k l → h ≤ 1000 → k ≤ 1000 → n ≤ 40 → l ≤ 40 → solve f h n ≡ solve g k l
same_solve words f g h k n l a b hh kk nn ll = elim a [
  | inl x ↦ elim b [
    | inl y ↦ (let both = sym x ∙ y in
        let files : f ≡ g = cc in
        let heights : h ≡ k = same_number h k hh kk cc in
        let sizes : n ≡ l = same_number n l (omega arith) (omega arith) cc in
        cc)
    | inr y ↦ absurd (let four : length words ≡ 4 = ap length x in let two : length words ≡ 2 = ap length y.0 in omega (arith, four, two))
  ]
  | inr x ↦ elim b [
    | inl y ↦ absurd (let four : length words ≡ 4 = ap length y in let two : length words ≡ 2 = ap length x.0 in omega (arith, four, two))
    | inr y ↦ (let both = sym x.0 ∙ y.0 in
        let files : f ≡ g = cc in
        let heights : h ≡ k = x.1 ∙ sym y.1 in
        let sizes : n ≡ l = x.2 ∙ sym y.2 in
        cc)
  ]
]

no_solve_check : (words : List (List ℕ)) (f g a : List ℕ) (h n k : ℕ) → AreSolve words f h n → words ≡ codes "check" ∷ g ∷ a ∷ decimal k ∷ [] → ⊥
no_solve_check words f g a h n k x y = elim x [
  | inl e ↦ (let both = ap (λ ws. get_or (get_or ws 0 []) 0 0) (sym e ∙ y) in let first : 115 ≡ 99 = both in omega (arith, first))
  | inr e ↦ (let four : length words ≡ 4 = ap length y in let two : length words ≡ 2 = ap length e.0 in omega (arith, four, two))
]

no_solve_show : (words : List (List ℕ)) (f g : List ℕ) (h n : ℕ) → AreSolve words f h n → words ≡ codes "show" ∷ g ∷ [] → ⊥
no_solve_show words f g h n x y = elim x [
  | inl e ↦ (let four : length words ≡ 4 = ap length e in let two : length words ≡ 2 = ap length y in omega (arith, four, two))
  | inr e ↦ (let both = ap (λ ws. get_or (get_or ws 0 []) 1 0) (sym e.0 ∙ y) in let second : 111 ≡ 104 = both in omega (arith, second))
]

no_show_check : (words : List (List ℕ)) (f g a : List ℕ) (k : ℕ) → words ≡ codes "show" ∷ f ∷ [] → words ≡ codes "check" ∷ g ∷ a ∷ decimal k ∷ [] → ⊥
no_show_check words f g a k x y = let two : length words ≡ 2 = ap length x in let four : length words ≡ 4 = ap length y in omega (arith, four, two)

pub one_task : (words : List (List ℕ)) (task other : Task) → Asks words task → Asks words other → task ≡ other
one_task words (solve f h n) (solve g k l) a b = same_solve words f g h k n l a.form b.form a.bounds.0.1 b.bounds.0.1 a.bounds.1.1 b.bounds.1.1
one_task words (solve f h n) (show g) a b = absurd (no_solve_show words f g h n a.form b.form)
one_task words (solve f h n) (check g x k) a b = absurd (no_solve_check words f g x h n k a.form b.form)
one_task words (show f) (solve g k l) a b = absurd (no_solve_show words g f k l b.form a.form)
one_task words (show f) (show g) a b = let both = sym a.form ∙ b.form in let same : f ≡ g = cc in ap show same
one_task words (show f) (check g x k) a b = absurd (no_show_check words f g x k a.form b.form)
one_task words (check f y h) (show g) a b = absurd (no_show_check words g f y h b.form a.form)
one_task words (check f y h) (solve g k l) a b = absurd (no_solve_check words g f y k l h b.form a.form)
one_task words (check f y h) (check g x k) a b =
    let both = sym a.form ∙ b.form in
    let files : f ≡ g = cc in
    let answers : y ≡ x = cc in
    let heights : h ≡ k = same_number h k a.bounds.1 b.bounds.1 cc in
    cc
