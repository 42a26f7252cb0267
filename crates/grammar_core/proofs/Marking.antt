-- Marks that follow the productions.
use Rattle.std.proofs.Common.{◌≡◌, ℕ, zero, suc, ◌+◌, ◌<◌, ◌≤◌, ◌^◌, Bool, true, false, not, cond, List, [], ◌∷◌, ◌++◌, length, replicate, get_or, set, All, Contains, count_by, inl, inr, sym, refl, ap, subst, ◌∙◌, arith}
use Rattle.std.proofs.lemmas.Bool.{cases_eq, cases_lt}
use Rattle.std.proofs.lemmas.List.{get_or_append_left, get_or-set_same, get_or-set_other, get_or_past, length-replicate, length-set, length_push}
use Rattle.std.proofs.lemmas.List.Elements.{All-contains}
use Rattle.std.proofs.lemmas.List.Sums.{count_by-le-length, sum_by-set, sum_by_push, sum_by-cons}
use Rattle.grammar_core.specs.declared.ids.NtId.{NtId}
use Rattle.grammar_core.specs.declared.marks.Marks.{Marks}
use Rattle.grammar_core.specs.Grammars.{Nonterminal, Leads, Reaches, itself, onward, productions_of, start}
use Rattle.grammar_core.specs.Marks.{AreMarks, Grows, HasChild, IsClosed, IsClosedBefore, IsClosedBut, IsMarked, MarksReached, Waits, none, queued_at, start_and, with_place}

pub not_both : {b : Bool} → b ≡ false → b ≡ true → ⊥
not_both p q = cc

pub marked_within : (flags : List Bool) (k : ℕ) → get_or flags k false ≡ true → k < length flags
marked_within flags k on = elim (cases_lt k (length flags)) [ inl h ↦ h | inr h ↦ absurd (not_both (get_or_past flags k false h) on) ]

set_stays : (flags : List Bool) (i j : ℕ) → i < length flags → get_or flags j false ≡ true → get_or (set flags i true) j false ≡ true
set_stays flags i j h e = elim (cases_eq j i) [ inl p ↦ subst (λ n. get_or (set flags i true) n false ≡ true) (sym p) (get_or-set_same flags i true false h) | inr p ↦ get_or-set_other flags i j true false p ∙ e ]

-- one more is marked
one_more : (flags : List Bool) (i : ℕ) → i < length flags → get_or flags i false ≡ false → count_by (λ flag. flag) (set flags i true) ≡ count_by (λ flag. flag) flags + 1
one_more flags i h off =
    let was : ◌≡◌ {A = ℕ} (cond (get_or flags i false) 1 0) 0 = ap (λ b. cond b 1 0) off in
    omega (arith, sum_by-set (λ b. cond b 1 0) flags i true false h, was)

-- while one is not marked, there is room in the queue
pub has_room : (marks : Marks) (i : ℕ) → AreMarks marks → i < length marks.flags → get_or marks.flags i false ≡ false → marks.count < length marks.queue
has_room marks i fine h off =
    omega (arith, fine.room, fine.counted, one_more marks.flags i h off, count_by-le-length (λ flag. flag) (set marks.flags i true), length-set marks.flags i true)

-- the marks with one nonterminal more that is marked
abbrev pub with_mark : Marks → NtId → Marks
with_mark marks n = record { flags = set marks.flags n.0 true; queue = set marks.queue marks.count n; count = marks.count + 1 }

pub waits_on : (old new : Marks) (i : ℕ) (n : NtId) → old.count ≤ new.count → ((place : ℕ) → place < old.count → queued_at new place ≡ queued_at old place) → Waits old i n → Waits new i n
waits_on old new i n longer same w = record { place = w.place; after = w.after; before = omega (arith, w.before, longer); is = same w.place w.before ∙ w.is }

pub waits_sooner : (marks : Marks) (i j : ℕ) (n : NtId) → i ≤ j → Waits marks j n → Waits marks i n
waits_sooner marks i j n h w = record { place = w.place; after = omega (arith, w.after); before = w.before; is = w.is }

same_number : (k n : NtId) → k.0 ≡ n.0 → k ≡ n
same_number k n e = ap (λ i. record { 0 = i }) e

module _ (marks : Marks) (n : NtId) (fine : AreMarks marks) (known : n.0 < length marks.flags) (off : get_or marks.flags n.0 false ≡ false) where
  room : marks.count < length marks.queue
  room = has_room marks n.0 fine known off

  last_is : queued_at (with_mark marks n) marks.count ≡ n
  last_is = get_or-set_same marks.queue marks.count n start room

  before_stays : (place : ℕ) → place < marks.count → queued_at (with_mark marks n) place ≡ queued_at marks place
  before_stays place h = get_or-set_other marks.queue marks.count place n start (λ e. omega arith)

  pub now_marked : IsMarked (with_mark marks n).flags n
  now_marked = get_or-set_same marks.flags n.0 true false known

  pub AreMarks-with_mark : AreMarks (with_mark marks n)
  AreMarks-with_mark = record {
    size = omega (arith, length-set marks.flags n.0 true, fine.size);
    room = omega (arith, length-set marks.flags n.0 true, length-set marks.queue marks.count n, fine.room);
    counted = omega (arith, one_more marks.flags n.0 known off, fine.counted);
    queued = λ place h. elim (cases_eq place marks.count) [
      | inl e ↦ subst (IsMarked (with_mark marks n).flags) (sym (ap (queued_at (with_mark marks n)) e ∙ last_is)) now_marked
      | inr e ↦ (let h' : place < marks.count = omega arith in
          subst (IsMarked (with_mark marks n).flags) (sym (before_stays place h')) (set_stays marks.flags n.0 (queued_at marks place).0 known (fine.queued place h')))
    ];
  }

  pub Grows-with_mark : Grows (λ k. k ≡ n) marks (with_mark marks n)
  Grows-with_mark = record {
    kept = λ k on. set_stays marks.flags n.0 k.0 known on;
    longer = omega arith;
    same = before_stays;
    fresh = λ k on. elim (cases_eq k.0 n.0) [
      | inl e ↦ (let same = same_number k n e in inr (same, record { place = marks.count; after = omega arith; before = omega arith; is = last_is ∙ sym same }))
      | inr e ↦ inl (sym (get_or-set_other marks.flags n.0 k.0 true false e) ∙ on)
    ];
  }

module _ (These : NtId → Type 0) where
  pub Grows-none : (marks : Marks) → Grows These marks marks
  Grows-none marks = record { kept = λ k on. on; longer = omega arith; same = λ place h. refl; fresh = λ k on. inl on }

  pub Grows-then : (a b c : Marks) → Grows These a b → Grows These b c → Grows These a c
  Grows-then a b c one two = record {
    kept = λ k on. two.kept k (one.kept k on);
    longer = omega (arith, one.longer, two.longer);
    same = λ place h. two.same place (omega (arith, one.longer)) ∙ one.same place h;
    fresh = λ k on. elim (two.fresh k on) [
      | inl between ↦ elim (one.fresh k between) [ inl before ↦ inl before | inr new ↦ inr (new.0, waits_on b c a.count k two.longer two.same new.1) ]
      | inr new ↦ inr (new.0, waits_sooner c a.count b.count k one.longer new.1)
    ];
  }

pub Grows-weaker : (These Those : NtId → Type 0) → ((n : NtId) → These n → Those n) → (a b : Marks) → Grows These a b → Grows Those a b
Grows-weaker These Those weaker a b g = record {
  kept = g.kept;
  longer = g.longer;
  same = g.same;
  fresh = λ k on. elim (g.fresh k on) [ inl before ↦ inl before | inr new ↦ inr (weaker k new.0, new.1) ];
}

-- what the next nonterminal of the queue leads to is marked
module _ (grammar : List Nonterminal) (old new : Marks) (n : NtId) where
  pub closed_next : (place : ℕ) → place < old.count → queued_at old place ≡ n → IsClosedBefore grammar old place → Grows (HasChild (productions_of grammar n)) old new
      → All (λ p. All (IsMarked new.flags) p.args) (productions_of grammar n) → IsClosedBefore grammar new (place + 1)
  closed_next place h is closed g all k m on leads =
      elim (g.fresh k on) [
        | inl before ↦ elim (closed k m before leads) [
          | inl child ↦ inl (g.kept m child)
          | inr w ↦ elim (cases_eq w.place place) [
            | inl e ↦ (let same : k ≡ n = sym w.is ∙ ap (queued_at old) e ∙ is in
                let here = subst (λ x. Leads grammar x m) same leads in
                inl (All-contains (IsMarked new.flags) here.production.args m (All-contains (λ p. All (IsMarked new.flags) p.args) (productions_of grammar n) here.production all here.stands) here.child))
            | inr e ↦ inr (record { place = w.place; after = omega (arith, w.after, e); before = omega (arith, w.before, g.longer); is = g.same w.place w.before ∙ w.is })
          ]
        ]
        | inr fresh ↦ inr (waits_sooner new (place + 1) old.count k (omega arith) fresh.1)
      ]

  pub reached_next : IsMarked old.flags n → Grows (HasChild (productions_of grammar n)) old new → MarksReached grammar old.flags → MarksReached grammar new.flags
  reached_next on g reached k now =
      elim (g.fresh k now) [
        | inl before ↦ reached k before
        | inr fresh ↦ onward (reached n on) (record { production = fresh.0.0; stands = fresh.0.1; child = fresh.0.2 })
      ]

  -- and so is what a new production of a marked nonterminal leads to
  pub closed_after : (args : List NtId) → IsClosedBut grammar old.flags n args → Grows (Contains args) old new → All (IsMarked new.flags) args → IsClosedBefore grammar new old.count
  closed_after args closed g all k m on leads =
      elim (g.fresh k on) [
        | inl before ↦ elim (closed k m before leads) [ inl child ↦ inl (g.kept m child) | inr due ↦ inl (All-contains (IsMarked new.flags) args m all due.1) ]
        | inr fresh ↦ inr fresh.1
      ]

  pub reached_after : (args : List NtId) → IsMarked old.flags n → All (Leads grammar n) args → Grows (Contains args) old new → MarksReached grammar old.flags → MarksReached grammar new.flags
  reached_after args on leads g reached k now =
      elim (g.fresh k now) [ inl before ↦ reached k before | inr fresh ↦ onward (reached n on) (All-contains (Leads grammar n) args k leads fresh.0) ]

-- a production of a nonterminal without a mark leads nowhere new
pub closed_unmarked : (grammar : List Nonterminal) (flags : List Bool) (n : NtId) (args : List NtId) → get_or flags n.0 false ≡ false → IsClosedBut grammar flags n args → IsClosed grammar flags
closed_unmarked grammar flags n args off closed k m on leads =
    elim (closed k m on leads) [ inl child ↦ child | inr due ↦ absurd (not_both off (subst (IsMarked flags) due.0 on)) ]

-- with nothing waiting all is closed
pub closed_all : (grammar : List Nonterminal) (marks : Marks) (place : ℕ) → marks.count ≤ place → IsClosedBefore grammar marks place → IsClosed grammar marks.flags
closed_all grammar marks place h closed n m on leads =
    elim (closed n m on leads) [ inl child ↦ child | inr w ↦ absurd (omega (arith, w.after, w.before)) ]

-- the marks of no nonterminal, and of one more
pub AreMarks-none : AreMarks none
AreMarks-none = record { size = omega arith; room = refl; counted = refl; queued = λ place h. absurd (omega arith) }

pub stays_marked : (flags : List Bool) (b : Bool) (n : NtId) → IsMarked flags n → IsMarked (flags ++ b ∷ []) n
stays_marked flags b n on = get_or_append_left flags (b ∷ []) false n.0 (marked_within flags n.0 on) ∙ on

empty_list : {X : Type 0} (xs : List X) → length xs ≡ 0 → xs ≡ []
empty_list [] h = refl
empty_list (x ∷ xs) h = absurd (omega arith)

start_only : AreMarks (start_and 0)
start_only = record { size = omega arith; room = refl; counted = refl; queued = λ place h. elim (cases_eq place 0) [ inl e ↦ subst (λ i. IsMarked (true ∷ []) (queued_at (start_and 0) i)) (sym e) refl | inr e ↦ absurd (omega arith) ] }

pub AreMarks-with_place : (marks : Marks) (b : Bool) → AreMarks marks → length marks.flags + 1 < 2 ^ 16 → (b ≡ true → length marks.flags ≡ 0) → AreMarks (with_place marks b)
AreMarks-with_place marks false fine h first = record {
  size = omega (arith, length_push marks.flags false);
  room = omega (arith, length_push marks.flags false, length_push marks.queue start, fine.room);
  counted = omega (arith, sum_by_push (λ b. cond b 1 0) marks.flags false, fine.counted);
  queued = λ place k. (let within : place < length marks.queue = omega (arith, k, fine.room, fine.counted, count_by-le-length (λ flag. flag) marks.flags) in
      subst (IsMarked (marks.flags ++ false ∷ [])) (sym (get_or_append_left marks.queue (start ∷ []) start place within)) (stays_marked marks.flags false (queued_at marks place) (fine.queued place k)));
}
AreMarks-with_place marks true fine h first =
    let no_flag = empty_list marks.flags (first refl) in
    let no_place = empty_list marks.queue (omega (arith, fine.room, first refl)) in
    subst AreMarks (ap (λ fs. record { flags = fs ++ true ∷ []; queue = start ∷ []; count = 1 }) (sym no_flag) ∙ ap (λ qs. record { flags = marks.flags ++ true ∷ []; queue = qs ++ start ∷ []; count = 1 }) (sym no_place)) start_only

unset : (n j : ℕ) → get_or (replicate n false) j false ≡ false
unset zero j = refl
unset (suc n) zero = refl
unset (suc n) (suc j) = unset n j

none_set : (n : ℕ) → count_by (λ flag. flag) (replicate n false) ≡ 0
none_set zero = refl
none_set (suc n) = omega (arith, sum_by-cons (λ b. cond b 1 0) false (replicate n false), none_set n)

pub AreMarks-start_and : (n : ℕ) → n + 1 < 2 ^ 16 → AreMarks (start_and n)
AreMarks-start_and n h = record {
  size = omega (arith, length-replicate n false);
  room = omega (arith, length-replicate n false, length-replicate n start);
  counted = omega (arith, sum_by-cons (λ b. cond b 1 0) true (replicate n false), none_set n);
  queued = λ place k. elim (cases_eq place 0) [ inl e ↦ subst (λ i. IsMarked (start_and n).flags (queued_at (start_and n) i)) (sym e) refl | inr e ↦ absurd (omega arith) ];
}

is_start : (n i : ℕ) → get_or (start_and n).flags i false ≡ true → i ≡ 0
is_start n zero on = refl
is_start n (suc i) on = absurd (not_both (unset n i) on)

pub start_reached : (grammar : List Nonterminal) (n : ℕ) → MarksReached grammar (start_and n).flags
start_reached grammar n k on = subst (Reaches grammar start) (sym (same_number k start (is_start n k.0 on))) itself

pub start_waits : (grammar : List Nonterminal) (n : ℕ) → IsClosedBefore grammar (start_and n) 0
start_waits grammar n k m on leads = inr (record { place = 0; after = omega arith; before = omega arith; is = sym (same_number k start (is_start n k.0 on)) })

-- what a test `m != n` says
pub differs : (same answer : Bool) → answer ≡ true → answer ≡ not same → same ≡ false
differs true answer p q = cc
differs false answer p q = refl
