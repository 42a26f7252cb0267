-- What a grammar keeps, after an item is added.
use Rattle.std.proofs.Common.{◌≡◌, ℕ, ◌+◌, ◌<◌, ◌≤◌, Bool, true, false, nat_eq, eq-eqb, List, [], ◌∷◌, ◌++◌, length, get_or, set, All, Contains, None, ◌⊎◌, inl, inr, sym, refl, ap, ap₂, subst, ◌∙◌, arith}
use Rattle.std.proofs.lemmas.Bool.{cases_eq, cases_lt, eqb-true}
use Rattle.std.proofs.lemmas.List.{get_or_append_left, get_or_push, get_or_past, get_or_read, get_or-set_same, get_or-set_other, get_or-map, length_push, length-set, map_push, map-set, set-get_or}
use Rattle.std.proofs.lemmas.List.Elements.{All-nil, All-push, All-set, All-weaker, Contains-append_left, Contains-get_or, Contains-push, Contains-push_cases}
use Rattle.std.proofs.lemmas.List.Sums.{sum_by-set, sum_by_push}
use Rattle.sig_core.specs.Names.{AreDistinct, place_of}
use Rattle.sig_core.specs.declared.ids.TypeId.{TypeId}
use Rattle.sig_core.proofs.NameLemmas.{AreDistinct-push}
use Rattle.grammar_core.specs.declared.ids.NtId.{NtId}
use Rattle.grammar_core.specs.declared.production.Production.{Production}
use Rattle.grammar_core.specs.Grammars.{Nonterminal, IsKnown, Leads, Reaches, itself, onward, blank, names_of, nonterminal_at, production_count, productions_of, start}
use Rattle.grammar_core.specs.Kept.{IsKept}
use Rattle.grammar_core.specs.declared.marks.Marks.{Marks}
use Rattle.grammar_core.specs.Limits.{KeepsLimits}
use Rattle.grammar_core.specs.Marks.{AreMarks, IsClosed, IsClosedBut, IsMarked, KeepsMarks, MarksReached, none, with_place}
use Rattle.grammar_core.specs.Refusals.{with_nonterminal, with_production}
use Rattle.grammar_core.specs.WellFormed.{AllKnown, IsGrammar}
use Rattle.grammar_core.proofs.Marking.{AreMarks-none, AreMarks-with_place, marked_within, stays_marked}

-- what one grammar leads to, another with these productions leads to
Leads-more : (g h : List Nonterminal) (n m : NtId) → ((p : Production) → Contains (productions_of g n) p → Contains (productions_of h n) p) → Leads g n m → Leads h n m
Leads-more g h n m more leads = record { production = leads.production; stands = more leads.production leads.stands; child = leads.child }

pub Reaches-more : (h : List Nonterminal) {g : List Nonterminal} {n m : NtId} → ((k : NtId) (p : Production) → Contains (productions_of g k) p → Contains (productions_of h k) p) → Reaches g n m → Reaches h n m
Reaches-more h more itself = itself
Reaches-more h more (onward {grammar} {n} {m} {k} path step) = onward (Reaches-more h more path) (Leads-more grammar h m k (more m) step)

known_as : (g h xs : List Nonterminal) → length g ≤ length h → AllKnown g xs → AllKnown h xs
known_as g h xs longer known =
    All-weaker (λ n. All (λ p. All (IsKnown g) p.args) n.productions) (λ n. All (λ p. All (IsKnown h) p.args) n.productions)
    (λ n. All-weaker (λ p. All (IsKnown g) p.args) (λ p. All (IsKnown h) p.args) (λ p. All-weaker (IsKnown g) (IsKnown h) (λ k l. omega arith) p.args) n.productions) xs known

none_stands : (p : Production) → Contains [] p → ⊥
none_stands p (k, h, e) = omega arith

-- a nonterminal that is put last leaves the productions of each number
productions-push : (g : List Nonterminal) (name : List ℕ) (owner : TypeId) (m : NtId) → productions_of (with_nonterminal g name owner) m ≡ productions_of g m
productions-push g name owner m =
    let added : Nonterminal = record { name = name; owner = owner; productions = [] } in
    elim (cases_lt m.0 (length g)) [
      | inl h ↦ ap (λ (n : Nonterminal). n.productions) (get_or_append_left g (added ∷ []) blank m.0 h)
      | inr h ↦ elim (cases_eq m.0 (length g)) [
        | inl e ↦ ap (λ (n : Nonterminal). n.productions) (get_or_push g added blank m.0 (sym e)) ∙ sym (ap (λ (n : Nonterminal). n.productions) (get_or_past g m.0 blank h))
        | inr e ↦ ap (λ (n : Nonterminal). n.productions) (get_or_past (with_nonterminal g name owner) m.0 blank (omega (arith, length_push g added))) ∙ sym (ap (λ (n : Nonterminal). n.productions) (get_or_past g m.0 blank h))
      ]
    ]

-- a mark is an old one, or the one that was put last
mark_cases : (marks : List Bool) (b : Bool) (n : NtId) → IsMarked (marks ++ b ∷ []) n → IsMarked marks n ⊎ ((n.0 ≡ length marks) × (b ≡ true))
mark_cases marks b n on =
    elim (cases_lt n.0 (length marks)) [
      | inl h ↦ inl (sym (get_or_append_left marks (b ∷ []) false n.0 h) ∙ on)
      | inr h ↦ (let within = marked_within (marks ++ b ∷ []) n.0 on in
          let last : n.0 ≡ length marks = omega (arith, length_push marks b, within) in
          inr (last, sym (get_or_push marks b false n.0 (sym last)) ∙ on))
    ]

pub KeepsLimits-none : KeepsLimits []
KeepsLimits-none = record { few = omega arith; few_productions = omega arith; distinct = λ i j d h k. absurd (omega arith) }

none_marked : (n : NtId) → IsMarked [] n → ⊥
none_marked n on = let h : n.0 < 0 = marked_within [] n.0 on in omega arith

-- a grammar without nonterminals keeps this
pub IsKept-none : IsKept [] 0 none
IsKept-none = record {
  fine = record { size = omega arith; known = λ i d h. absurd (omega arith) };
  counted = refl;
  marked = AreMarks-none;
  size = refl;
  first = λ h. absurd (omega arith);
  reached = λ n on. absurd (none_marked n on);
  closed = λ n m on leads. absurd (none_marked n on);
}

pub KeepsLimits-with_nonterminal : (g : List Nonterminal) (name : List ℕ) (owner : TypeId) → place_of (names_of g) name ≡ None → length g < 256 → KeepsLimits g → KeepsLimits (with_nonterminal g name owner)
KeepsLimits-with_nonterminal g name owner fresh room limits =
    let added : Nonterminal = record { name = name; owner = owner; productions = [] } in record {
      few = omega (arith, length_push g added);
      few_productions = omega (arith, sum_by_push (λ (n : Nonterminal). length n.productions) g added, limits.few_productions);
      distinct = subst AreDistinct (sym (map_push (λ (n : Nonterminal). n.name) g added)) (AreDistinct-push (names_of g) name fresh limits.distinct);
    }

pub IsKept-with_nonterminal : (g : List Nonterminal) (count : ℕ) (marks : Marks) (name : List ℕ) (owner : TypeId) (b : Bool) → IsKept g count marks → length g < 256 → b ≡ nat_eq (length g) 0
    → IsKept (with_nonterminal g name owner) count (with_place marks b)
IsKept-with_nonterminal g count marks name owner b kept room is =
    let added : Nonterminal = record { name = name; owner = owner; productions = [] } in
    let flags = marks.flags in
    let longer : length (with_nonterminal g name owner) ≡ length g + 1 = length_push g added in record {
      fine = record {
        size = omega (arith, longer);
        known = All-push (λ n. All (λ p. All (IsKnown (with_nonterminal g name owner)) p.args) n.productions) g added (known_as g (with_nonterminal g name owner) g (omega (arith, longer)) kept.fine.known) (All-nil (λ p. All (IsKnown (with_nonterminal g name owner)) p.args));
      };
      counted = omega (arith, sum_by_push (λ (n : Nonterminal). length n.productions) g added, kept.counted);
      marked = AreMarks-with_place marks b kept.marked (omega (arith, kept.size)) (λ e. omega (arith, kept.size, eqb-true (length g) 0 (sym is ∙ e)));
      size = omega (arith, longer, length_push flags b, kept.size);
      first = λ h. elim (cases_eq (length g) 0) [
        | inl e ↦ get_or_push flags b false 0 (omega (arith, kept.size)) ∙ is ∙ eq-eqb (length g) 0 e
        | inr e ↦ stays_marked flags b start (kept.first (omega arith))
      ];
      reached = λ n on. elim (mark_cases flags b n on) [
        | inl old ↦ Reaches-more (with_nonterminal g name owner) (λ k p. subst (λ ps. Contains ps p) (sym (productions-push g name owner k))) (kept.reached n old)
        | inr new ↦ subst (Reaches (with_nonterminal g name owner) start) (ap (λ k. record { 0 = k }) (let zeroth : 0 ≡ n.0 = omega (arith, new.0, kept.size, eqb-true (length g) 0 (sym is ∙ new.1)) in zeroth)) itself
      ];
      closed = λ n m on leads. (let before : Leads g n m = Leads-more (with_nonterminal g name owner) g n m (λ p. subst (λ ps. Contains ps p) (productions-push g name owner n)) leads in
          elim (mark_cases flags b n on) [
            | inl old ↦ stays_marked flags b m (kept.closed n m old before)
            | inr new ↦ absurd (none_stands before.production (subst (λ ps. Contains ps before.production) (ap (λ (x : Nonterminal). x.productions) (get_or_past g n.0 blank (omega (arith, new.0, kept.size)))) before.stands))
          ]);
    }

-- one more production of a nonterminal
module _ (g : List Nonterminal) (n : NtId) (known : IsKnown g n) (p : Production) where
  productions-here : productions_of (with_production g n p) n ≡ productions_of g n ++ p ∷ []
  productions-here = ap (λ (x : Nonterminal). x.productions) (get_or-set_same g n.0 (record (nonterminal_at g n) { productions = productions_of g n ++ p ∷ [] }) blank known)

  productions-elsewhere : (m : NtId) → (m.0 ≡ n.0 → ⊥) → productions_of (with_production g n p) m ≡ productions_of g m
  productions-elsewhere m other = ap (λ (x : Nonterminal). x.productions) (get_or-set_other g n.0 m.0 (record (nonterminal_at g n) { productions = productions_of g n ++ p ∷ [] }) blank other)

  keeps_productions : (m : NtId) (q : Production) → Contains (productions_of g m) q → Contains (productions_of (with_production g n p) m) q
  keeps_productions m q stands =
      elim (cases_eq m.0 n.0) [
        | inl e ↦ (let same : n ≡ m = ap (λ k. record { 0 = k }) (sym e) in
            subst (λ k. Contains (productions_of (with_production g n p) k) q) same (subst (λ ps. Contains ps q) (sym productions-here) (Contains-append_left (productions_of g n) (p ∷ []) q (subst (λ k. Contains (productions_of g k) q) (sym same) stands))))
        | inr e ↦ subst (λ ps. Contains ps q) (sym (productions-elsewhere m e)) stands
      ]

  same_names : names_of (with_production g n p) ≡ names_of g
  same_names =
      map-set (λ (x : Nonterminal). x.name) g n.0 (record (nonterminal_at g n) { productions = productions_of g n ++ p ∷ [] })
      ∙ ap (set (names_of g) n.0) (sym (get_or-map (λ (x : Nonterminal). x.name) g n.0 blank [] known)) ∙ set-get_or (names_of g) n.0 []

  pub one_more : production_count (with_production g n p) ≡ production_count g + 1
  one_more =
      let new : Nonterminal = record (nonterminal_at g n) { productions = productions_of g n ++ p ∷ [] } in
      omega (arith, sum_by-set (λ (x : Nonterminal). length x.productions) g n.0 new blank known, length_push (productions_of g n) p)

  pub same_length : length (with_production g n p) ≡ length g
  same_length = length-set g n.0 (record (nonterminal_at g n) { productions = productions_of g n ++ p ∷ [] })

  pub IsGrammar-with_production : All (IsKnown g) p.args → IsGrammar g → IsGrammar (with_production g n p)
  IsGrammar-with_production args fine =
      let h = with_production g n p in
      let as_long : length g ≤ length h = omega (arith, same_length) in
      let each : AllKnown h g = known_as g h g as_long fine.known in record {
        size = omega (arith, same_length, fine.size);
        known = All-set (λ x. All (λ q. All (IsKnown h) q.args) x.productions) g n.0 (record (nonterminal_at g n) { productions = productions_of g n ++ p ∷ [] })
            (All-push (λ q. All (IsKnown h) q.args) (productions_of g n) p (each n.0 blank known) (All-weaker (IsKnown g) (IsKnown h) (λ k l. omega arith) p.args args)) each;
      }

  pub KeepsLimits-with_production : production_count g < 4096 → KeepsLimits g → KeepsLimits (with_production g n p)
  KeepsLimits-with_production room limits = record {
    few = omega (arith, same_length, limits.few);
    few_productions = omega (arith, one_more);
    distinct = subst AreDistinct (sym same_names) limits.distinct;
  }

  pub all_led : All (Leads (with_production g n p) n) p.args
  all_led i d h = record { production = p; stands = subst (λ ps. Contains ps p) (sym productions-here) (Contains-push (productions_of g n) p); child = Contains-get_or p.args i d h }

  pub closed_but : (flags : List Bool) → IsClosed g flags → IsClosedBut (with_production g n p) flags n p.args
  closed_but flags closed k m on leads =
      let q = leads.production in
      elim (cases_eq k.0 n.0) [
        | inl e ↦ (let same : k ≡ n = ap (λ i. record { 0 = i }) e in
            elim (Contains-push_cases (productions_of g n) p q (subst (λ ps. Contains ps q) (ap (productions_of (with_production g n p)) same ∙ productions-here) leads.stands)) [
              | inl old ↦ inl (closed k m on (record { production = q; stands = subst (λ x. Contains (productions_of g x) q) (sym same) old; child = leads.child }))
              | inr new ↦ inr (same, subst (λ (x : Production). Contains x.args m) (sym new) leads.child)
            ])
        | inr e ↦ inl (closed k m on (Leads-more (with_production g n p) g k m (λ x. subst (λ ps. Contains ps x) (productions-elsewhere k e)) leads))
      ]

  pub IsKept-with_production : (count : ℕ) (marks new : Marks) → IsKept g count marks → All (IsKnown g) p.args → AreMarks new → length new.flags ≡ length marks.flags → KeepsMarks marks.flags new.flags
      → (MarksReached (with_production g n p) marks.flags → MarksReached (with_production g n p) new.flags) → IsClosed (with_production g n p) new.flags → IsKept (with_production g n p) (count + 1) new
  IsKept-with_production count marks new kept args marked size keeps reached closed = record {
    fine = IsGrammar-with_production args kept.fine;
    counted = omega (arith, one_more, kept.counted);
    marked = marked;
    size = omega (arith, same_length, kept.size, size);
    first = λ h. keeps start (kept.first (omega (arith, same_length)));
    reached = reached (λ m on. Reaches-more (with_production g n p) keeps_productions (kept.reached m on));
    closed = closed;
  }

-- the marks tell what the start leads to
pub marks_tell : (g : List Nonterminal) (count : ℕ) (marks : Marks) → IsKept g count marks → 0 < length g → {n m : NtId} → Reaches g n m → n ≡ start → IsMarked marks.flags m
marks_tell g count marks kept some itself e = subst (IsMarked marks.flags) (sym e) (kept.first some)
marks_tell g count marks kept some (onward {grammar} {n} {m} {k} path step) e = kept.closed m k (marks_tell g count marks kept some path e) step

-- the nonterminal at n with another list of productions
abbrev having : Nonterminal → List Production → Nonterminal
having x ps = record x { productions = ps }

-- what a write of one nonterminal's productions leaves
pub written : (g : List Nonterminal) (n : NtId) (k : ℕ) (read : Nonterminal) (p made : Production) (after : List Production) → IsKnown g n → k ≡ n.0 → read ≡ get_or g k read → made ≡ p → after ≡ read.productions ++ made ∷ []
    → set g k (having read after) ≡ with_production g n p
written g n k read p made after known at is is_made pushed =
    let within : k < length g = omega arith in
    let found : read ≡ nonterminal_at g n = get_or_read g k read within is blank ∙ ap (λ i. get_or g i blank) at in
    let new : having read after ≡ having (nonterminal_at g n) (productions_of g n ++ p ∷ []) = ap₂ having found (pushed ∙ ap₂ (λ (x : Nonterminal) (m : Production). x.productions ++ m ∷ []) found is_made) in
    ap₂ (set g) at new
