-- Items of which some are written into a list: those that pass a test.
use Rattle.std.proofs.Common.{◌≡◌, ℕ, ◌+◌, ◌≤◌, Bool, true, false, not, Some, None, List, [], ◌∷◌, ◌++◌, map, drop, length, slice_get, inl, inr, refl, sym, ap, ap₂, ◌∙◌, arith}
use Rattle.std.specs.Prelude.{filter, if◌then◌else◌}
use Rattle.std.proofs.lemmas.List.{drop_all}
use Rattle.std.proofs.lemmas.List.Filters.{length-filter_both}
use Rattle.std.proofs.lemmas.Option.{slice_get_cases}
use Rattle.sig_core.specs.declared.signature.Kind.{Kind}
use Rattle.sig_core.specs.declared.signature.Param.{Param}
use Rattle.sexpr_core.specs.declared.form.Sexpr.{Sexpr}
use Rattle.sexpr_core.specs.Texts.{form_text, gap_before, joined_from}
use Rattle.problem_core.specs.Texts.{names_where}
use Rattle.problem_core.proofs.Loops.{Left, put_one}

-- the first item passes the test
pub kept_at : {X : Type 0} (test : X → Bool) (x : X) (left rest : List X) → left ≡ x ∷ rest → test x ≡ true → filter test left ≡ x ∷ filter test rest
kept_at test x left rest here passes = ap (filter test) here ∙ ap (λ b. if b then x ∷ filter test rest else filter test rest) passes

-- the first item fails it
pub left_out : {X : Type 0} (test : X → Bool) (x : X) (left rest : List X) → left ≡ x ∷ rest → test x ≡ false → filter test left ≡ filter test rest
left_out test x left rest here fails = ap (filter test) here ∙ ap (λ b. if b then x ∷ filter test rest else filter test rest) fails

pub kept_few : {X : Type 0} (test : X → Bool) (xs : List X) → length (filter test xs) ≤ length xs
kept_few test xs = omega (arith, length-filter_both test (λ x. not (test x)) (λ x. refl) xs)

pub named_at : (test : Kind → Bool) (p : Param) (left rest : List Param) → left ≡ p ∷ rest → test p.kind ≡ true → names_where test left ≡ p.name ∷ names_where test rest
named_at test p left rest here passes = ap (names_where test) here ∙ ap (λ b. if b then p.name ∷ names_where test rest else names_where test rest) passes

pub not_named : (test : Kind → Bool) (p : Param) (left rest : List Param) → left ≡ p ∷ rest → test p.kind ≡ false → names_where test left ≡ names_where test rest
not_named test p left rest here fails = ap (names_where test) here ∙ ap (λ b. if b then p.name ∷ names_where test rest else names_where test rest) fails

-- nothing is left where no item is found
pub none_left : {X : Type 0} (xs : List X) (k : ℕ) → slice_get xs k ≡ None → drop k xs ≡ []
none_left xs k e = elim (slice_get_cases xs k).1 [ inl there ↦ absurd (let t : slice_get xs k ≡ Some there.0 = there.2 in let f : Some there.0 ≡ None = sym t ∙ e in cc) | inr past ↦ drop_all k xs past.0 ]

-- an item was written, and counted
pub put_kept : {X : Type 0} (f : X → Sexpr) (all : List X) (k : ℕ) (x : X) (left rest : List X) (old now gapped new : List ℕ) {next : ℕ} {after : List ℕ} →
    left ≡ x ∷ rest → Left f all k left old now → gapped ≡ now ++ gap_before k → new ≡ gapped ++ form_text (f x) → next ≡ k + 1 → after ≡ new → Left f all next rest old after
put_kept f all k x left rest old now gapped new {next} {after} here had first second counts is =
    ap₂ (λ n j. n ++ joined_from j (map form_text (map f rest))) is counts ∙ put_one f all k x left rest old now gapped new here had first second

-- an item was passed over
pub put_none : {X : Type 0} (f : X → Sexpr) (all : List X) (k : ℕ) (left rest : List X) (old now : List ℕ) {next : ℕ} {after : List ℕ} →
    left ≡ rest → Left f all k left old now → next ≡ k → after ≡ now → Left f all next rest old after
put_none f all k left rest old now {next} {after} same had counts is =
    ap₂ (λ n j. n ++ joined_from j (map form_text (map f rest))) is counts ∙ ap (λ l. now ++ joined_from k (map form_text (map f l))) (sym same) ∙ had
