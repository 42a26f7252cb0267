-- The whole grammar, constructor by constructor.
use Rattle.std.proofs.Common.{◌≡◌, ◌≢◌, ℕ, zero, suc, ◌+◌, ◌<◌, ◌≤◌, Bool, true, false, not, cond, nat_eq, List, [], ◌∷◌, ◌++◌, length, map, get_or, set, slice_get, slice_index_or, take, Some, All, inl, inr, sym, refl, ap, ap₂, subst, ◌∙◌, arith}
use Rattle.std.proofs.lemmas.Bool.{cases_eq, cases_lt}
use Rattle.std.proofs.lemmas.Bool.Decides.{nat_tests}
use Rattle.std.proofs.lemmas.List.{append-nil, get_or-map, map_push, get_or-set_same, get_or-set_other, length-map, length-set, length-take-le, same_lists, take_all, take_more}
use Rattle.std.proofs.lemmas.Option.{get_or_from_slice_get, slice_get-get_or, slice_get_within}
use Rattle.std.proofs.lemmas.List.Elements.{filter-append, All-map, All-nil, All-weaker}
use Rattle.std.proofs.lemmas.List.Sums.{sum_by-cons}
use Rattle.sig_core.specs.Lists.{numbers_from}
use Rattle.sig_core.specs.Names.{AreDistinct}
use Rattle.sig_core.specs.Signatures.{Declarations}
use Rattle.sig_core.specs.WellFormed.{IsConstructor, IsDeclared, IsWellFormed}
use Rattle.sig_core.specs.declared.ids.TypeId.{TypeId}
use Rattle.sig_core.specs.declared.signature.Constructor.{Constructor}
use Rattle.grammar_core.specs.declared.ids.NtId.{NtId}
use Rattle.grammar_core.specs.declared.production.Production.{Production}
use Rattle.grammar_core.specs.Grammars.{Nonterminal, IsKnown, blank, names_of, nonterminal_at, production_count, productions_of, start}
use Rattle.grammar_core.specs.Kept.{IsKept}
use Rattle.grammar_core.specs.declared.marks.Marks.{Marks}
use Rattle.grammar_core.specs.Limits.{KeepsLimits}
use Rattle.grammar_core.specs.Marks.{AreMarks, IsClosed, KeepsMarks, MarksReached, start_and}
use Rattle.grammar_core.specs.Refusals.{with_production}
use Rattle.grammar_core.specs.WellFormed.{AllKnown, IsGrammar}
use Rattle.grammar_core.specs.Whole.{nonterminal_for, nonterminal_over, productions_from, types_in_order, whole, whole_over}
use Rattle.grammar_core.proofs.Keeping.{IsGrammar-with_production, one_more}
use Rattle.grammar_core.proofs.Marking.{start_reached}
use Rattle.grammar_core.proofs.Numbering.{declared_at, is_other, is_same, length-numbers, length-types, number_at, number_of, others, place_within, type_at, typed}

-- the production of the constructor with this number
abbrev pub production_of : TypeId → ℕ → Constructor → Production
production_of first k c = record { con = record { 0 = k }; args = map (nonterminal_for first) c.args }

put_through : {X : Type 0} (b : Bool) (x : X) (xs ys : List X) → cond b (x ∷ (xs ++ ys)) (xs ++ ys) ≡ cond b (x ∷ xs) xs ++ ys
put_through true x xs ys = refl
put_through false x xs ys = refl

-- one more constructor gives its type one more production
tested : (k : ℕ) (first t : TypeId) (cs : List Constructor) (c : Constructor) → productions_from k first t (cs ++ c ∷ []) ≡ productions_from k first t cs ++ cond (nat_eq c.owner.0 t.0) (production_of first (k + length cs) c ∷ []) []
tested k first t [] c = ap (λ i. cond (nat_eq c.owner.0 t.0) (production_of first i c ∷ []) []) (let same : k ≡ k + 0 = omega arith in same)
tested k first t (b ∷ cs) c =
    ap (λ ps. cond (nat_eq b.owner.0 t.0) (production_of first k b ∷ ps) ps) (tested (suc k) first t cs c)
    ∙ put_through (nat_eq b.owner.0 t.0) (production_of first k b) (productions_from (suc k) first t cs) (cond (nat_eq c.owner.0 t.0) (production_of first (suc k + length cs) c ∷ []) [])
    ∙ ap (λ i. productions_from k first t (b ∷ cs) ++ cond (nat_eq c.owner.0 t.0) (production_of first i c ∷ []) []) (let same : suc k + length cs ≡ k + suc (length cs) = omega arith in same)

abbrev having : Nonterminal → List Production → Nonterminal
having n ps = record n { productions = ps }

-- any type, for a place past the end
abbrev pub none : TypeId
none = record { 0 = 0 }

equal_number : (m n : ℕ) → m ≡ n → nat_eq m n ≡ true
equal_number m n e = grind (arith, nat_tests)

other_number : (m n : ℕ) → (m ≡ n → ⊥) → nat_eq m n ≡ false
other_number m n e = grind (arith, nat_tests)

module _ (sig : Declarations) (first : TypeId) (declared : first.0 < length sig.types) where
  pub length-whole : (cs : List Constructor) → length (whole_over sig first cs) ≡ length sig.types
  length-whole cs = length-map (types_in_order sig first) (nonterminal_over sig first cs) ∙ length-types sig first declared

  pub whole_at : (cs : List Constructor) (j : ℕ) (d : Nonterminal) → j < length sig.types → get_or (whole_over sig first cs) j d ≡ nonterminal_over sig first cs (get_or (types_in_order sig first) j none)
  whole_at cs j d h = get_or-map (nonterminal_over sig first cs) (types_in_order sig first) j none d (omega (arith, length-types sig first declared))

  offset : (cs : List Constructor) (c : Constructor) → production_of first (0 + length cs) c ≡ production_of first (length cs) c
  offset cs c = ap (λ i. production_of first i c) (let same : 0 + length cs ≡ length cs = omega arith in same)

  grown : (cs : List Constructor) (c : Constructor) (t : TypeId) (b : Bool) → nat_eq c.owner.0 t.0 ≡ b
      → nonterminal_over sig first (cs ++ c ∷ []) t ≡ having (nonterminal_over sig first cs t) (productions_from 0 first t cs ++ cond b (production_of first (length cs) c ∷ []) [])
  grown cs c t b e = ap (having (nonterminal_over sig first cs t)) (tested 0 first t cs c ∙ ap₂ (λ x q. productions_from 0 first t cs ++ cond x (q ∷ []) []) e (offset cs c))

  -- what a place of the whole grammar becomes
  step_here : (cs : List Constructor) (c : Constructor) → c.owner.0 < length sig.types → (j : ℕ) (d : Nonterminal) → j < length sig.types → j ≡ (nonterminal_for first c.owner).0
      → get_or (whole_over sig first (cs ++ c ∷ [])) j d ≡ get_or (with_production (whole_over sig first cs) (nonterminal_for first c.owner) (production_of first (length cs) c)) j d
  step_here cs c owned j d h e =
      let n : NtId = nonterminal_for first c.owner in
      let g : List Nonterminal = whole_over sig first cs in
      let t : TypeId = get_or (types_in_order sig first) j none in
      let owner : t ≡ c.owner = ap (λ k. get_or (types_in_order sig first) k none) e ∙ type_at sig first declared c.owner none owned in
      let old : nonterminal_at g n ≡ nonterminal_over sig first cs t = ap (λ k. get_or g k blank) (sym e) ∙ whole_at cs j blank h in
      let one : nonterminal_over sig first (cs ++ c ∷ []) t ≡ having (nonterminal_over sig first cs t) (productions_from 0 first t cs ++ production_of first (length cs) c ∷ []) = grown cs c t true (equal_number c.owner.0 t.0 (ap (λ u. u.0) (sym owner))) in
      let made : Nonterminal = having (nonterminal_at g n) (productions_of g n ++ production_of first (length cs) c ∷ []) in
      let set_is : get_or (set g n.0 made) j d ≡ made = ap (λ k. get_or (set g n.0 made) k d) e ∙ get_or-set_same g n.0 made d (omega (arith, length-whole cs, e)) in
      whole_at (cs ++ c ∷ []) j d h ∙ one ∙ ap (λ x. having x (x.productions ++ production_of first (length cs) c ∷ [])) (sym old) ∙ sym set_is

  step_elsewhere : (cs : List Constructor) (c : Constructor) → c.owner.0 < length sig.types → (j : ℕ) (d : Nonterminal) → j < length sig.types → (j ≡ (nonterminal_for first c.owner).0 → ⊥)
      → get_or (whole_over sig first (cs ++ c ∷ [])) j d ≡ get_or (with_production (whole_over sig first cs) (nonterminal_for first c.owner) (production_of first (length cs) c)) j d
  step_elsewhere cs c owned j d h other =
      let n : NtId = nonterminal_for first c.owner in
      let g : List Nonterminal = whole_over sig first cs in
      let t : TypeId = get_or (types_in_order sig first) j none in
      let made : Nonterminal = having (nonterminal_at g n) (productions_of g n ++ production_of first (length cs) c ∷ []) in
      let apart : c.owner.0 ≡ t.0 → ⊥ = λ e. other (sym (number_of sig first declared j none h) ∙ ap (λ k. (nonterminal_for first (record { 0 = k })).0) (sym e)) in
      let same : nonterminal_over sig first (cs ++ c ∷ []) t ≡ nonterminal_over sig first cs t = grown cs c t false (other_number c.owner.0 t.0 apart) ∙ ap (having (nonterminal_over sig first cs t)) (append-nil (productions_from 0 first t cs)) in
      whole_at (cs ++ c ∷ []) j d h ∙ same ∙ sym (whole_at cs j d h) ∙ sym (get_or-set_other g n.0 j made d other)

  -- one more constructor puts its production last in its type's nonterminal
  pub fill_step : (cs : List Constructor) (c : Constructor) → c.owner.0 < length sig.types → whole_over sig first (cs ++ c ∷ []) ≡ with_production (whole_over sig first cs) (nonterminal_for first c.owner) (production_of first (length cs) c)
  fill_step cs c owned =
      let n : NtId = nonterminal_for first c.owner in
      let g : List Nonterminal = whole_over sig first cs in
      let after : List Nonterminal = with_production g n (production_of first (length cs) c) in
      let long : length after ≡ length sig.types = length-set g n.0 (having (nonterminal_at g n) (productions_of g n ++ production_of first (length cs) c ∷ [])) ∙ length-whole cs in
      same_lists (whole_over sig first (cs ++ c ∷ [])) after (length-whole (cs ++ c ∷ []) ∙ sym long)
      (λ j d h. (let within : j < length sig.types = omega (arith, length-whole (cs ++ c ∷ [])) in
      elim (cases_eq j n.0) [ inl e ↦ step_here cs c owned j d within e | inr e ↦ step_elsewhere cs c owned j d within e ]))

-- a signature's constructor, and the types that it names
pub constructor_of : (sig : Declarations) → IsWellFormed sig → (k : ℕ) (c : Constructor) → slice_get sig.constructors k ≡ Some c → IsConstructor (length sig.types) c
constructor_of sig fine k c e = subst (IsConstructor (length sig.types)) (get_or_from_slice_get sig.constructors k c c e) (fine.constructors k c (slice_get_within sig.constructors k c e))

pub fill_more : (sig : Declarations) (first : TypeId) → first.0 < length sig.types → IsWellFormed sig → (k : ℕ) (c : Constructor) → slice_get sig.constructors k ≡ Some c
    → whole_over sig first (take (k + 1) sig.constructors) ≡ with_production (whole_over sig first (take k sig.constructors)) (nonterminal_for first c.owner) (production_of first k c)
fill_more sig first declared fine k c e =
    let within : k < length sig.constructors = slice_get_within sig.constructors k c e in
    let next : take (k + 1) sig.constructors ≡ take k sig.constructors ++ c ∷ [] = take_more sig.constructors k c within ∙ ap (λ x. take k sig.constructors ++ x ∷ []) (get_or_from_slice_get sig.constructors k c c e) in
    ap (whole_over sig first) next ∙ fill_step sig first declared (take k sig.constructors) c (constructor_of sig fine k c e).owner
    ∙ ap (λ i. with_production (whole_over sig first (take k sig.constructors)) (nonterminal_for first c.owner) (production_of first i c)) (length-take-le k sig.constructors (omega arith))

-- a type's number is below the number of the types
pub number_known : (sig : Declarations) (first t : TypeId) (cs : List Constructor) → first.0 < length sig.types → t.0 < length sig.types → IsKnown (whole_over sig first cs) (nonterminal_for first t)
number_known sig first t cs declared h =
    let within = place_within t.0 first.0 (length sig.types) h declared in
    omega (arith, length-whole sig first declared cs, within)

-- before the first constructor no nonterminal has a production
apart : (sig : Declarations) (first : TypeId) → first.0 < length sig.types → IsWellFormed sig → (a b : ℕ) → a < length sig.types → b < length sig.types → (a ≡ b → ⊥) → get_or sig.types a [] ≢ get_or sig.types b []
apart sig first declared fine a b h k differ e =
    elim (cases_lt a b) [ inl l ↦ fine.distinct_types a b [] l k e | inr l ↦ fine.distinct_types b a [] (omega arith) h (sym e) ]

module _ (sig : Declarations) (first : TypeId) (declared : first.0 < length sig.types) (fine : IsWellFormed sig) where
  name_at : (j : ℕ) (d : List ℕ) → j < length sig.types → get_or (names_of (whole_over sig first [])) j d ≡ get_or sig.types (get_or (types_in_order sig first) j none).0 []
  name_at j d h =
      get_or-map (λ (n : Nonterminal). n.name) (whole_over sig first []) j blank d (omega (arith, length-whole sig first declared []))
      ∙ ap (λ (n : Nonterminal). n.name) (whole_at sig first declared [] j blank h)

  distinct_names : AreDistinct (names_of (whole_over sig first []))
  distinct_names = λ i j d h k.
      (let count = length-map (whole_over sig first []) (λ (n : Nonterminal). n.name) in
      let in_j : j < length sig.types = omega (arith, count, length-whole sig first declared []) in
      let in_i : i < length sig.types = omega arith in
      let differ : (get_or (types_in_order sig first) i none).0 ≡ (get_or (types_in_order sig first) j none).0 → ⊥ = λ e. (let same : i ≡ j = sym (number_of sig first declared i none in_i) ∙ ap (λ t. (nonterminal_for first (record { 0 = t })).0) e ∙ number_of sig first declared j none in_j in omega arith) in
      λ e. apart sig first declared fine (get_or (types_in_order sig first) i none).0 (get_or (types_in_order sig first) j none).0 (declared_at sig first declared i none in_i) (declared_at sig first declared j none in_j) differ (sym (name_at i d in_i) ∙ e ∙ name_at j d in_j))

  no_production : (ts : List TypeId) → production_count (map (nonterminal_over sig first []) ts) ≡ 0
  no_production [] = refl
  no_production (t ∷ ts) = omega (arith, sum_by-cons (λ (n : Nonterminal). length n.productions) (nonterminal_over sig first [] t) (map (nonterminal_over sig first []) ts), no_production ts)

  all_known : (g : List Nonterminal) (ts : List TypeId) → AllKnown g (map (nonterminal_over sig first []) ts)
  all_known g ts = All-map (λ n. All (λ p. All (IsKnown g) p.args) n.productions) (nonterminal_over sig first []) ts (λ k d h. All-nil (λ p. All (IsKnown g) p.args))

  none_yet : IsGrammar (whole_over sig first [])
  none_yet = record {
    size = omega (arith, length-whole sig first declared [], fine.few_types);
    known = all_known (whole_over sig first []) (types_in_order sig first);
  }

  no_constructor : Constructor
  no_constructor = record { name = []; owner = none; args = [] }

  -- after k constructors there are k productions
  pub filled : (k : ℕ) → k ≤ length sig.constructors → IsGrammar (whole_over sig first (take k sig.constructors)) × (production_count (whole_over sig first (take k sig.constructors)) ≡ k)
  filled zero h = (none_yet, no_production (types_in_order sig first))
  filled (suc k) h =
      let before = filled k (omega arith) in
      let c = get_or sig.constructors k no_constructor in
      let at = slice_get-get_or sig.constructors k no_constructor h in
      let sound = constructor_of sig fine k c at in
      let g = whole_over sig first (take k sig.constructors) in
      let n = nonterminal_for first c.owner in
      let p = production_of first k c in
      let known : IsKnown g n = number_known sig first c.owner (take k sig.constructors) declared sound.owner in
      let args : All (IsKnown g) p.args = All-map (IsKnown g) (nonterminal_for first) c.args (All-weaker (IsDeclared (length sig.types)) (λ t. IsKnown g (nonterminal_for first t)) (λ t u. number_known sig first t (take k sig.constructors) declared u) c.args sound.args) in
      let next : whole_over sig first (take (suc k) sig.constructors) ≡ with_production g n p = ap (λ i. whole_over sig first (take i sig.constructors)) (let sums : suc k ≡ k + 1 = omega arith in sums) ∙ fill_more sig first declared fine k c at in
      (subst IsGrammar (sym next) (IsGrammar-with_production g n known p args before.0), ap production_count next ∙ one_more g n known p ∙ ap (λ i. i + 1) before.1 ∙ (let sums : k + 1 ≡ suc k = omega arith in sums))

  pub IsGrammar-whole : IsGrammar (whole sig first)
  IsGrammar-whole = subst (λ cs. IsGrammar (whole_over sig first cs)) (take_all (length sig.constructors) sig.constructors (omega arith)) (filled (length sig.constructors) (omega arith)).0

  pub production_count-whole : production_count (whole sig first) ≡ length sig.constructors
  production_count-whole = ap (λ cs. production_count (whole_over sig first cs)) (sym (take_all (length sig.constructors) sig.constructors (omega arith))) ∙ (filled (length sig.constructors) (omega arith)).1

pub IsKept-whole : (sig : Declarations) (first : TypeId) → first.0 < length sig.types → IsWellFormed sig → (n count : ℕ) (marks : Marks) → count ≡ length sig.constructors → AreMarks marks → length marks.flags ≡ length (whole sig first)
    → KeepsMarks (start_and n).flags marks.flags → (MarksReached (whole sig first) (start_and n).flags → MarksReached (whole sig first) marks.flags) → IsClosed (whole sig first) marks.flags → IsKept (whole sig first) count marks
IsKept-whole sig first declared fine n count marks is marked size kept reached closed = record {
  fine = IsGrammar-whole sig first declared fine;
  counted = is ∙ sym (production_count-whole sig first declared fine);
  marked = marked;
  size = size;
  first = λ h. kept start refl;
  reached = reached (start_reached (whole sig first) n);
  closed = closed;
}

names_stay : (sig : Declarations) (first : TypeId) (cs : List Constructor) (ts : List TypeId) → names_of (map (nonterminal_over sig first cs) ts) ≡ names_of (map (nonterminal_over sig first []) ts)
names_stay sig first cs [] = refl
names_stay sig first cs (t ∷ ts) = ap (λ names. slice_index_or sig.types t.0 [] ∷ names) (names_stay sig first cs ts)

pub KeepsLimits-whole : (sig : Declarations) (first : TypeId) → first.0 < length sig.types → IsWellFormed sig → KeepsLimits (whole sig first)
KeepsLimits-whole sig first declared fine = record {
  few = omega (arith, length-whole sig first declared sig.constructors, fine.few_types);
  few_productions = omega (arith, production_count-whole sig first declared fine, fine.few_constructors);
  distinct = subst AreDistinct (sym (names_stay sig first sig.constructors (types_in_order sig first))) (distinct_names sig first declared fine);
}

more_types : (f t : ℕ) (ns : List ℕ) (b : Bool) → not (nat_eq t f) ≡ b → others f (ns ++ t ∷ []) ≡ others f ns ++ cond b (t ∷ []) []
more_types f t ns b e = filter-append (λ n. not (nat_eq n f)) ns (t ∷ []) ∙ ap (λ x. others f ns ++ cond x (t ∷ []) []) e

-- the nonterminals of the first type and of the others among the first k
abbrev pub bare_to : Declarations → TypeId → ℕ → List Nonterminal
bare_to sig first k = map (nonterminal_over sig first []) (first ∷ map (λ t. record { 0 = t }) (others first.0 (take k (numbers_from 0 sig.types))))

module _ (sig : Declarations) (first : TypeId) (t : ℕ) (within : t < length sig.types) where
  next_number : take (t + 1) (numbers_from 0 sig.types) ≡ take t (numbers_from 0 sig.types) ++ t ∷ []
  next_number =
      take_more (numbers_from 0 sig.types) t 0 (omega (arith, length-numbers 0 sig.types))
      ∙ ap (λ x. take t (numbers_from 0 sig.types) ++ x ∷ []) (number_at 0 sig.types t 0 within ∙ (let same : 0 + t ≡ t = omega arith in same))

  abbrev listed : List ℕ → List Nonterminal
  listed ns = map (nonterminal_over sig first []) (first ∷ map (λ k. record { 0 = k }) ns)

  listed-append : (ns : List ℕ) → listed (ns ++ t ∷ []) ≡ listed ns ++ nonterminal_over sig first [] (record { 0 = t }) ∷ []
  listed-append ns =
      ap (λ ts. nonterminal_over sig first [] first ∷ map (nonterminal_over sig first []) ts) (map_push typed ns t)
      ∙ ap (λ xs. nonterminal_over sig first [] first ∷ xs) (map_push (nonterminal_over sig first []) (map typed ns) (typed t))

  pub bare_other : (t ≡ first.0 → ⊥) → bare_to sig first (t + 1) ≡ bare_to sig first t ++ nonterminal_over sig first [] (record { 0 = t }) ∷ []
  bare_other e =
      ap (λ ns. listed (others first.0 ns)) next_number ∙ ap listed (more_types first.0 t (take t (numbers_from 0 sig.types)) true (is_other t first.0 e))
      ∙ listed-append (others first.0 (take t (numbers_from 0 sig.types)))

  pub bare_first : t ≡ first.0 → bare_to sig first (t + 1) ≡ bare_to sig first t
  bare_first e =
      ap (λ ns. listed (others first.0 ns)) next_number ∙ ap listed (more_types first.0 t (take t (numbers_from 0 sig.types)) false (is_same t first.0 e) ∙ append-nil (others first.0 (take t (numbers_from 0 sig.types))))

pub bare_all : (sig : Declarations) (first : TypeId) (k : ℕ) → length sig.types ≤ k → bare_to sig first k ≡ whole_over sig first []
bare_all sig first k h = ap (λ ns. map (nonterminal_over sig first []) (first ∷ map (λ t. record { 0 = t }) (others first.0 ns))) (take_all k (numbers_from 0 sig.types) (omega (arith, length-numbers 0 sig.types)))

-- a nonterminal of a type's name
pub named : (sig : Declarations) (first : TypeId) (t : TypeId) (name : List ℕ) → slice_get sig.types t.0 ≡ Some name → record { name = name; owner = t; productions = [] } ≡ nonterminal_over sig first [] t
named sig first t name e = ap (λ n. record { name = n; owner = t; productions = [] }) (sym (get_or_from_slice_get sig.types t.0 name [] e))
