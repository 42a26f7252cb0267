-- The relation of a function and the constructors of its cases are of the type of the matched term.
use Rattle.std.proofs.Common.{◌≡◌, ℕ, suc, Bool, true, false, Option, Some, None, List, [], ◌∷◌, map, length, get_or, refl, sym, ap, subst, ◌∙◌, arith}
use Rattle.std.specs.Prelude.{◌≢◌, if◌then◌else◌, not, is_some, nat_eq, All, unwrap_or, option_map}
use Rattle.std.specs.List.{find}
use Rattle.std.specs.Cmp.Lexicographic.{bytes_decides}
use Rattle.std.proofs.lemmas.List.Elements.{All-head, All-tail}
use Rattle.std.proofs.lemmas.List.Quantifiers.{position-Some}
use Rattle.std.proofs.lemmas.Bool.Decides.{nat_tests}
use Rattle.sig_core.specs.declared.ids.TypeId.{TypeId}
use Rattle.sig_core.specs.declared.signature.Constructor.{Constructor}
use Rattle.sig_core.specs.declared.signature.Kind.{Kind}
use Rattle.sig_core.specs.declared.signature.Kind.TheVariants.{Term, Input, Output}
use Rattle.sig_core.specs.declared.signature.Param.{Param}
use Rattle.sig_core.specs.declared.value.Sort.{Sort}
use Rattle.sig_core.specs.Names.{AreDistinct, place_of, same_name}
use Rattle.sig_core.specs.Signatures.{Declarations, term_type}
use Rattle.sexpr_core.specs.declared.form.Atom.{Atom}
use Rattle.syntax_core.specs.declared.syntax.Pair.{Pair}
use Rattle.rule_core.proofs.Determined.{and_both}
use Rattle.name_core.specs.Names.{has, is_plain, names_in, term_pairs, texts}
use Rattle.sort_core.specs.Relations.{kind_of, param_of, sort_named, sort_of_pair, type_named}
use Rattle.sort_core.specs.Sorts.{makes}

pub kinds_of_params : (sig : Declarations) (inputs : List Atom) (pairs : List Pair) →
    map (λ (p : Param). p.kind) (map (param_of sig inputs) pairs) ≡ map (kind_of sig inputs) pairs
kinds_of_params sig inputs [] = refl
kinds_of_params sig inputs (p ∷ ps) = ap (λ ks. kind_of sig inputs p ∷ ks) (kinds_of_params sig inputs ps)

first_kind : (b h : Bool) (s : Sort) (t : TypeId) (ks : List Kind) (q p : Pair) (qs more : List Pair) (goal : Option TypeId) →
    (if not b then q ∷ qs else qs) ≡ p ∷ more → (qs ≡ p ∷ more → term_type ks ≡ goal) → (q ≡ p → Some t ≡ goal) →
    term_type ((if b then (if h then Input s else Output s) else Term t) ∷ ks) ≡ goal
first_kind true true s t ks q p qs more goal is later here = later is
first_kind true false s t ks q p qs more goal is later here = later is
first_kind false h s t ks q p qs more goal is later here = here cc

-- the type of the relation's term is that of the first pair that is a term
pub first_term : (sig : Declarations) (inputs : List Atom) (pairs : List Pair) (p : Pair) (more : List Pair) → term_pairs pairs ≡ p ∷ more →
    term_type (map (kind_of sig inputs) pairs) ≡ Some (type_named sig p.sort.bytes)
first_term sig inputs [] p more is = cc
first_term sig inputs (q ∷ qs) p more is =
    first_kind (is_plain q) (has (texts inputs) q.name.bytes) (sort_named q.sort.bytes) (type_named sig q.sort.bytes) (map (kind_of sig inputs) qs) q p (term_pairs qs) more
    (Some (type_named sig p.sort.bytes)) is (first_term sig inputs qs p more) (λ e. ap (λ (x : Pair). Some (type_named sig x.sort.bytes)) e)

-- what holds of each name holds of that of the first term
first_named : (P : List ℕ → Type 0) (pairs : List Pair) (p : Pair) (more : List Pair) → All P (names_in pairs) → term_pairs pairs ≡ p ∷ more → P p.name.bytes
first_named P [] p more each is = absurd cc
first_named P (q ∷ qs) p more each is = by (is_plain q) (first_named P qs p more (All-tail P q.name.bytes (names_in qs) each)) is
  where
    by : (b : Bool) → (term_pairs qs ≡ p ∷ more → P p.name.bytes) → (if not b then q ∷ term_pairs qs else term_pairs qs) ≡ p ∷ more → P p.name.bytes
    by true later e = later e
    by false later e = let same : q ≡ p = cc in subst (λ (x : Pair). P x.name.bytes) same (All-head P q.name.bytes (names_in qs) each)

distinct_head : (x : List ℕ) (xs : List (List ℕ)) → AreDistinct (x ∷ xs) → All (λ y. x ≢ y) xs
distinct_head x xs h k d lt = h 0 (suc k) d (omega arith) (omega arith)

distinct_tail : (x : List ℕ) (xs : List (List ℕ)) → AreDistinct (x ∷ xs) → AreDistinct xs
distinct_tail x xs h i j d lt within = h (suc i) (suc j) d (omega arith) (omega arith)

not_same : (b : Bool) → (b ≡ true → ⊥) → b ≡ false
not_same true h = absurd (h refl)
not_same false h = refl

-- the first pair that is named as the only term is that term
pub only_term : (pairs : List Pair) (p : Pair) (name : List ℕ) → AreDistinct (names_in pairs) → term_pairs pairs ≡ p ∷ [] → p.name.bytes ≡ name →
    find (λ (q : Pair). same_name q.name.bytes name) pairs ≡ Some p
only_term [] p name distinct is named = absurd cc
only_term (q ∷ qs) p name distinct is named = by (is_plain q) (λ e. only_term qs p name (distinct_tail q.name.bytes (names_in qs) distinct) e named) is
  where
    by : (b : Bool) → (term_pairs qs ≡ p ∷ [] → find (λ (q : Pair). same_name q.name.bytes name) qs ≡ Some p) → (if not b then q ∷ term_pairs qs else term_pairs qs) ≡ p ∷ [] →
        (if same_name q.name.bytes name then Some q else find (λ (q : Pair). same_name q.name.bytes name) qs) ≡ Some p
    by true later e =
        let other : q.name.bytes ≢ p.name.bytes = first_named (λ n. q.name.bytes ≢ n) qs p [] (distinct_head q.name.bytes (names_in qs) distinct) e in
        let unlike : same_name q.name.bytes name ≡ false = not_same (same_name q.name.bytes name) (λ t. other ((bytes_decides q.name.bytes name).0 t ∙ sym named)) in
        ap (λ t. if t then Some q else find (λ (q : Pair). same_name q.name.bytes name) qs) unlike ∙ later e
    by false later e =
        let same : q ≡ p = cc in
        let alike : same_name q.name.bytes name ≡ true = (bytes_decides q.name.bytes name).1 (ap (λ (x : Pair). x.name.bytes) same ∙ named) in
        ap (λ t. if t then Some q else find (λ (q : Pair). same_name q.name.bytes name) qs) alike ∙ ap Some same

pub single : {X : Type 0} (xs : List X) → length xs ≡ 1 → (x : X) × (xs ≡ x ∷ [])
single [] e = absurd (omega arith)
single (x ∷ []) e = (x, refl)
single (x ∷ y ∷ ys) e = absurd (omega arith)

some_of : {X : Type 0} (o : Option X) → is_some o ≡ true → (x : X) × (o ≡ Some x)
some_of None e = absurd cc
some_of (Some x) e = (x, refl)

only_name : (one name : List ℕ) → has (one ∷ []) name ≡ true → one ≡ name
only_name one name e =
    let at = some_of (place_of (one ∷ []) name) e in
    let found = position-Some (same_name name) (one ∷ []) at.0 one at.1 in
    let zero_th : at.0 ≡ 0 = omega (arith, found.0) in
    sym ((bytes_decides name one).0 (sym (ap (λ i. same_name name (get_or (one ∷ []) i one)) zero_th) ∙ found.1))

pub sort_of_matched : (pairs : List Pair) (p : Pair) (name : List ℕ) → AreDistinct (names_in pairs) → term_pairs pairs ≡ p ∷ [] → has (names_in (term_pairs pairs)) name ≡ true →
    unwrap_or (sort_of_pair pairs name) [] ≡ p.sort.bytes
sort_of_matched pairs p name distinct is named =
    let called = only_name p.name.bytes name (sym (ap (λ ps. has (names_in ps) name) is) ∙ named) in
    ap (λ o. unwrap_or (option_map (λ (q : Pair). q.sort.bytes) o) []) (only_term pairs p name distinct is called)

same_id : (a b : TypeId) → a.0 ≡ b.0 → a ≡ b
same_id a b e = ap type_id e
  where
    type_id : ℕ → TypeId
    type_id n = record { 0 = n }

pub record Made (owner : TypeId) (count : ℕ) (con : Option Constructor) : Type 0 where
  pub found : Constructor
  pub is : con ≡ Some found
  pub same_owner : found.owner ≡ owner
  pub same_count : length found.args ≡ count

pub made_by : (owner : TypeId) (count : ℕ) (con : Option Constructor) → makes owner count con ≡ true → Made owner count con
made_by owner count None e = absurd cc
made_by owner count (Some c) e =
    let both = and_both (nat_eq c.owner.0 owner.0) (nat_eq (length c.args) count) e in
    record { found = c; is = refl; same_owner = same_id c.owner owner (grind (arith, nat_tests, both.0)); same_count = grind (arith, nat_tests, both.1) }
