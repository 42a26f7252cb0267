-- A search, one size more.
use Rattle.std.proofs.Common.{◌≡◌, ◌+◌, ◌≤◌, inl, inr, ℕ, suc, true, false, Option, Some, None, IfSome, List, sym, ap, subst, arith}
use Rattle.std.specs.Option.{is_some}
use Rattle.std.proofs.lemmas.Bool.{cases_lt}
use Rattle.term_core.specs.declared.ids.TermId.{TermId}
use Rattle.term_core.specs.declared.tree.Tree.{Tree}
use Rattle.term_core.specs.Banks.{IsLive, tree_of}
use Rattle.term_core.specs.Terms.{size}
use Rattle.term_core.proofs.Parts.{size_of}
use Rattle.lens_core.specs.declared.lens.Lens.{Ghosts as LensOf}
use Rattle.lens_core.specs.Meanings.{KeepsMeaning}
use Rattle.lens_core.proofs.Staying.{Stays-refl, Stays-trans}
use Rattle.problem_core.specs.Problems.{Parts}
use Rattle.class_core.specs.declared.classes.Classes.{Classes}
use Rattle.class_core.specs.Looks.{IsLooks, LooksAtEach}
use Rattle.class_core.specs.Standing.{grown_of, lens_of}
use Rattle.class_core.proofs.Counting.{looks_rise, no_looks}
use Rattle.class_core.proofs.Unchanged.{Stays-sym, to_count}
use Rattle.solve_core.specs.Pruning.{IsLeadingAnswer}
use Rattle.solve_core.specs.Searching.{AreSearched, IsFoundOfSize, last_size}
use Rattle.solve_core.specs.Works.{term_found}
use Rattle.solve_core.proofs.Searching.{first_seen, found_is_first, none_seen}

sized : (t : Tree) → 1 ≤ size t
sized t = omega (arith, size_of t)

module _ {L Mark : Type 0} (lens : LensOf L Mark) (problem : Parts) (h : ℕ) where
  -- where nothing is grown, no size is searched
  pub nothing_searched : (classes : Classes L Mark) → grown_of classes ≡ 0 → lens.looked (lens_of classes) ≡ 0 → AreSearched lens problem h (lens_of classes) classes 1
  nothing_searched classes none_grown none_taken = record {
    meaning = Stays-refl (lens.has_mark (lens_of classes)) (lens.same_mark (lens_of classes)) (lens.is_for (lens_of classes)) (lens.is_plain (lens_of classes));
    looks = subst (λ k. IsLooks problem.grammar (lens.same_mark (lens_of classes)) (lens.is_plain (lens_of classes)) k (lens.looked (lens_of classes))) (sym none_grown)
        (subst (IsLooks problem.grammar (lens.same_mark (lens_of classes)) (lens.is_plain (lens_of classes)) 0) (sym none_taken) (no_looks problem.grammar (lens.same_mark (lens_of classes)) (lens.is_plain (lens_of classes))));
    next = omega arith;
    none = λ t leader small solves. (let some = sized t in absurd (omega arith));
  }

  module _ (first : L) (old new : Classes L Mark) (k : ℕ) (searched : AreSearched lens problem h first old k) (grown : grown_of new ≡ k) (kept : KeepsMeaning lens (lens_of old) (lens_of new))
      (looks : LooksAtEach problem.grammar (lens.same_mark (lens_of old)) (lens.is_plain (lens_of old)) k (lens.looked (lens_of old)) (lens.looked (lens_of new))) where
    means : KeepsMeaning lens first (lens_of new)
    means =
        Stays-trans (lens.has_mark first) (lens.has_mark (lens_of old)) (lens.has_mark (lens_of new)) (lens.same_mark first) (lens.same_mark (lens_of old)) (lens.same_mark (lens_of new))
        (lens.is_for first) (lens.is_for (lens_of old)) (lens.is_for (lens_of new)) (lens.is_plain first) (lens.is_plain (lens_of old)) (lens.is_plain (lens_of new)) searched.meaning kept

    counted : LooksAtEach problem.grammar (lens.same_mark first) (lens.is_plain first) k (lens.looked (lens_of old)) (lens.looked (lens_of new))
    counted = record {
      count = looks.count;
      counted = to_count (lens.has_mark (lens_of old)) (lens.has_mark first) (lens.same_mark (lens_of old)) (lens.same_mark first) (lens.is_for (lens_of old)) (lens.is_for first) (lens.is_plain (lens_of old)) (lens.is_plain first)
          (Stays-sym (lens.has_mark first) (lens.has_mark (lens_of old)) (lens.same_mark first) (lens.same_mark (lens_of old)) (lens.is_for first) (lens.is_for (lens_of old)) (lens.is_plain first) (lens.is_plain (lens_of old)) searched.meaning)
          problem.grammar k looks.count looks.counted;
      looks = looks.looks;
    }

    looked : IsLooks problem.grammar (lens.same_mark first) (lens.is_plain first) k (lens.looked (lens_of new))
    looked =
        let next : suc (grown_of old) ≡ k = omega (arith, searched.next) in
        subst (λ j. IsLooks problem.grammar (lens.same_mark first) (lens.is_plain first) j (lens.looked (lens_of new))) next
        (looks_rise problem.grammar (lens.same_mark first) (lens.is_plain first) (grown_of old) (lens.looked (lens_of old)) (lens.looked (lens_of new)) searched.looks
        (subst (λ j. LooksAtEach problem.grammar (lens.same_mark first) (lens.is_plain first) j (lens.looked (lens_of old)) (lens.looked (lens_of new))) (sym next) counted))

    -- where it has no leader that solves, the search goes on
    pub goes_on : (bank : List Tree) (found : Option TermId) → is_some found ≡ false → IsFoundOfSize problem h (lens.same_mark (lens_of new)) k bank found → AreSearched lens problem h first new (k + 1)
    goes_on bank (Some id) is_one none = absurd cc
    goes_on bank None is_none none = record {
      meaning = means;
      looks = subst (λ j. IsLooks problem.grammar (lens.same_mark first) (lens.is_plain first) j (lens.looked (lens_of new))) (sym grown) looked;
      next = ap (λ j. j + 1) (sym grown);
      none = λ t leader small. elim (cases_lt (size t) k) [
        | inl smaller ↦ searched.none t leader smaller
        | inr large ↦ (let is : size t ≡ k = omega arith in
            none_seen problem h (lens.same_mark first) (lens.same_mark (lens_of new)) means.equals_stay k none t leader is)
      ];
    }

    -- and where it has one, that is the answer
    pub answer_found : (n : ℕ) → k ≤ n → (bank : List Tree) (found : Option TermId) → is_some found ≡ true → IsFoundOfSize problem h (lens.same_mark (lens_of new)) k bank found
        → IsLeadingAnswer problem h n (lens.same_mark first) (term_found bank found)
    answer_found n few bank None is_one is = absurd cc
    answer_found n few bank (Some id) is_one is =
        found_is_first problem (lens.same_mark first) h n k (tree_of bank id) few searched.none (first_seen problem h (lens.same_mark first) (lens.same_mark (lens_of new)) means.equals_stay k (tree_of bank id) is.1)

    pub looks_found : (n : ℕ) (bank : List Tree) (found : Option TermId) → is_some found ≡ true → IsFoundOfSize problem h (lens.same_mark (lens_of new)) k bank found
        → IsLooks problem.grammar (lens.same_mark first) (lens.is_plain first) (last_size n (term_found bank found)) (lens.looked (lens_of new))
    looks_found n bank None is_one is = absurd cc
    looks_found n bank (Some id) is_one is = subst (λ j. IsLooks problem.grammar (lens.same_mark first) (lens.is_plain first) j (lens.looked (lens_of new))) (sym is.1.sized) looked

pub live_found : (problem : Parts) (h : ℕ) (same : Tree → Tree → Type 0) (k : ℕ) (bank : List Tree) (found : Option TermId) → IsFoundOfSize problem h same k bank found → IfSome found (IsLive bank)
live_found problem h same k bank None is = tt
live_found problem h same k bank (Some id) is = is.0
