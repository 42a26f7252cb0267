-- What the passes of a command leave no fault in can be added.
use Rattle.std.proofs.Common.{◌≡◌, ◌<◌, ℕ, suc, ◌+◌, Bool, true, false, not, cond, ◌||◌, List, [], ◌∷◌, ◌++◌, length, Some, None, is_some, refl, sym, ap, ◌∙◌, if◌then◌else◌, arith}
use Rattle.std.specs.Prelude.{nat_lt, position, codes}
use Rattle.std.specs.List.{list_any}
use Rattle.std.proofs.lemmas.Bool.{ltb-true, or_parts}
use Rattle.std.proofs.lemmas.Bool.Decides.{nat_tests}
use Rattle.std.proofs.lemmas.List.{append_assoc, length-append, map-append}
use Rattle.std.proofs.lemmas.List.Folds.{list_any-append}
use Rattle.sig_core.specs.declared.signature.SigError.{SigError}
use Rattle.sig_core.specs.Names.{same_name}
use Rattle.sig_core.specs.Refusals.{type_refusal, with_type}
use Rattle.sig_core.specs.Signatures.{Declarations}
use Rattle.sexpr_core.specs.declared.form.Atom.{Atom}
use Rattle.syntax_core.specs.declared.fault.Fault.{Fault}
use Rattle.name_core.specs.Faults.{bad_if, first, found_after, found_from, past}
use Rattle.making_core.specs.Fitting.{TypesFit}
use Rattle.name_core.specs.Limits.{long_name, type_limits}
use Rattle.name_core.specs.Names.{has, sort_names, taken_name, texts}

-- Faults that aren't there.

pub none-left : (xs ys : List Fault) → first (xs ++ ys) ≡ None → first xs ≡ None
none-left [] ys h = refl
none-left (x ∷ xs) ys h = absurd (cc)

pub none-right : (xs ys : List Fault) → first (xs ++ ys) ≡ None → first ys ≡ None
none-right [] ys h = h
none-right (x ∷ xs) ys h = absurd (cc)

pub passes : (test : Bool) (reason place : ℕ) → first (bad_if test reason place) ≡ None → test ≡ false
passes true reason place h = absurd (cc)
passes false reason place h = refl

holds_by : (test : Bool) (fault : Fault) → first (if test then [] else fault ∷ []) ≡ None → test ≡ true
holds_by true fault h = refl
holds_by false fault h = absurd (cc)

pub within_limit : (most limit number place : ℕ) → first (past most limit number place) ≡ None → number < most
within_limit most limit number place h = ltb-true number most (holds_by (nat_lt number most) _ h)

-- Names that don't stand.

counted : (b : Bool) (n m : ℕ) (rest : Bool) → is_some (cond (nat_lt n m) (Some n) None) ≡ rest →
    is_some (cond (nat_lt (cond (not b) (1 + n) 0) (suc m)) (Some (cond (not b) (1 + n) 0)) None) ≡ (b || rest)
counted true n m rest h = grind (arith, nat_tests)
counted false n m rest h = grind (arith, nat_tests)

pub stands_among : {X : Type 0} (p : X → Bool) (xs : List X) → is_some (position p xs) ≡ list_any p xs
stands_among p [] = refl
stands_among p (x ∷ xs) = counted (p x) _ (length xs) (list_any p xs) (stands_among p xs)

pub has-append : (xs ys : List (List ℕ)) (name : List ℕ) → has (xs ++ ys) name ≡ (has xs name || has ys name)
has-append xs ys name =
    stands_among (same_name name) (xs ++ ys) ∙ list_any-append (same_name name) xs ys
    ∙ ap (λ b. b || list_any (same_name name) ys) (sym (stands_among (same_name name) xs)) ∙ ap (λ b. has xs name || b) (sym (stands_among (same_name name) ys))

any_text : (symbols : List Atom) (name : List ℕ) → list_any (same_name name) (texts symbols) ≡ list_any (λ symbol. same_name name symbol.bytes) symbols
any_text [] name = refl
any_text (symbol ∷ symbols) name = ap (λ b. same_name name symbol.bytes || b) (any_text symbols name)

pub text_stands : (symbols : List Atom) (name : List ℕ) → has (texts symbols) name ≡ list_any (λ symbol. same_name name symbol.bytes) symbols
text_stands symbols name = stands_among (same_name name) (texts symbols) ∙ any_text symbols name

-- Types.

accepted_by : (a b : Bool) (e f : SigError) → a ≡ false → b ≡ true → (if a then Some e else if b then None else Some f) ≡ None
accepted_by true b e f p q = absurd (cc)
accepted_by false true e f p q = refl
accepted_by false false e f p q = absurd (cc)

no_sort_by : (a b : Bool) → (a || (b || false)) ≡ false → (a || b) ≡ false
no_sort_by true b h = absurd (cc)
no_sort_by false true h = absurd (cc)
no_sort_by false false h = refl

no_sort : (name : List ℕ) → has sort_names name ≡ false → (same_name name (codes "Int") || same_name name (codes "Bool")) ≡ false
no_sort name h = no_sort_by (same_name name (codes "Int")) (same_name name (codes "Bool")) (sym (stands_among (same_name name) sort_names) ∙ h)

pub both_false : (a b : Bool) → a ≡ false → b ≡ false → (a || b) ≡ false
both_false true b p q = absurd (cc)
both_false false b p q = q

accepted : (sig : Declarations) (types : List (List ℕ)) (name : List ℕ) → sig.types ≡ types → has (types ++ sort_names) name ≡ false → nat_lt (length sig.types) 256 ≡ true → type_refusal sig name ≡ None
accepted sig types name e h l =
    let apart : (has types name ≡ false) × (has sort_names name ≡ false) = or_parts (has types name) (has sort_names name) (sym (has-append types sort_names name) ∙ h) in
    let new : has sig.types name ≡ false = ap (λ ts. has ts name) e ∙ apart.0 in
    accepted_by _ _ _ _ (both_false (has sig.types name) _ new (no_sort name apart.1)) l

pub types_fit : (sig : Declarations) (types : List (List ℕ)) (before names : List Atom) (n : ℕ) → sig.types ≡ types ++ texts before → n ≡ length sig.types →
    first (found_from type_limits n names) ≡ None →
    first (found_after (λ b name. taken_name (types ++ texts b ++ sort_names) name) before names) ≡ None →
    TypesFit sig (texts names)
types_fit sig types before [] n e l h k = tt
types_fit sig types before (name ∷ names) n e l h k =
    let here : first (type_limits n name) ≡ None = none-left (type_limits n name) _ h in
    let number : first (past 256 5 n name.place) ≡ None = none-right (long_name name) _ here in
    let few : nat_lt n 256 ≡ true = holds_by (nat_lt n 256) _ number in
    let free : first (taken_name (types ++ texts before ++ sort_names) name) ≡ None = none-left (taken_name (types ++ texts before ++ sort_names) name) _ k in
    let grown : sig.types ++ name.bytes ∷ [] ≡ types ++ texts (before ++ name ∷ []) =
    ap (λ t. t ++ name.bytes ∷ []) e ∙ append_assoc types (texts before) (name.bytes ∷ []) ∙ ap (λ t. types ++ t) (sym (map-append (λ (a : Atom). a.bytes) before (name ∷ []))) in
    let longer : n + 1 ≡ length (sig.types ++ name.bytes ∷ []) = omega (arith, l, length-append sig.types (name.bytes ∷ [])) in (
      accepted sig (types ++ texts before) name.bytes e (passes _ 21 name.place free) (ap (λ m. nat_lt m 256) (sym l) ∙ few),
      types_fit (with_type sig name.bytes) types (before ++ name ∷ []) names (n + 1) grown longer (none-right (type_limits n name) _ h) (none-right (taken_name (types ++ texts before ++ sort_names) name) _ k),
    )
