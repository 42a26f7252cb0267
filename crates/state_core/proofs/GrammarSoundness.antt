-- The grammar of a command without faults is sound, and so is what has been stated with it.
use Rattle.std.proofs.Common.{◌≡◌, ◌<◌, ◌≤◌, ℕ, zero, suc, ◌+◌, Bool, true, false, not, List, [], ◌∷◌, ◌++◌, map, length, get_or, Option, Some, None, is_some, All, refl, sym, ap, subst, ◌∙◌, if◌then◌else◌, arith}
use Rattle.std.specs.Prelude.{nat_lt, slice_get}
use Rattle.std.specs.List.{flat_map, zip}
use Rattle.std.specs.Cmp.Lexicographic.{bytes_decides}
use Rattle.std.proofs.lemmas.Bool.{not-false}
use Rattle.std.proofs.lemmas.List.{length-append, length-map}
use Rattle.std.proofs.lemmas.List.Elements.{All-head, All-map, All-nil, All-tail, All-weaker}
use Rattle.std.proofs.lemmas.List.Sums.{sum_by-cons}
use Rattle.sig_core.specs.declared.ids.TypeId.{TypeId}
use Rattle.sig_core.specs.Names.{AreDistinct, place_of, same_name}
use Rattle.sig_core.specs.Signatures.{Declarations}
use Rattle.sig_core.specs.WellFormed.{IsDeclared, IsWellFormed, constructor_names}
use Rattle.sexpr_core.specs.declared.form.Sexpr.{Sexpr}
use Rattle.sexpr_core.specs.Access.{parts_of, item_of}
use Rattle.syntax_core.specs.declared.commands.Head.TheVariants as head
use Rattle.syntax_core.specs.declared.fault.Fault.{Fault}
use Rattle.syntax_core.specs.declared.syntax.Pair.{Pair}
use Rattle.syntax_core.specs.Syntax.{atom_of, items_at, nonterminals_of, pair_of}
use Rattle.grammar_core.specs.declared.production.Nonterminal.{Nonterminal}
use Rattle.grammar_core.specs.Grammars.{IsKnown, names_of, production_count}
use Rattle.grammar_core.specs.Refusals.{makes}
use Rattle.grammar_core.specs.Whole.{nonterminal_over, types_in_order, whole}
use Rattle.grammar_core.proofs.Filling.{IsGrammar-whole, KeepsLimits-whole, length-whole}
use Rattle.grammar_core.proofs.Numbering.{declared_at, length-types}
use Rattle.grammar_core.proofs.OfSignature.{IsGrammarOf-whole}
use Rattle.problem_core.specs.declared.parts.Constraint.{Constraint}
use Rattle.problem_core.specs.Soundness.{IsShort, IsSoundConstraint, IsSoundGrammar, IsSoundNonterminal, wanted_type}
use Rattle.name_core.specs.Faults.{first, found}
use Rattle.name_core.specs.Limits.{wanted_limits}
use Rattle.name_core.specs.Names.{group_names, groups_of, has, names_in, nonterminal_names, unknown_name, wanted_names}
use Rattle.name_core.specs.States.{State, Wanted}
use Rattle.name_core.proofs.Having.{place-none}
use Rattle.name_core.proofs.LimitFacts.{NamesShort, WantedFits as HasRoom, wanted_fits as has_room}
use Rattle.name_core.proofs.NameFacts.{WantedNamed, wanted_named}
use Rattle.sort_core.specs.Relations.{type_named}
use Rattle.sort_core.specs.Sorts.{start_faults, wanted_faults}
use Rattle.state_core.specs.Taking.{IsTaken}
use Rattle.making_core.specs.Fitting.{GroupsOfFit, WantedFits, with_nonterminals}
use Rattle.state_core.specs.Commands.{faults_in, may_come}
use Rattle.making_core.specs.Making.{added, grammar_of, nonterminal_of, wanted_of}
use Rattle.making_core.specs.Soundness.{IsSoundState, IsSoundWanted}
use Rattle.making_core.proofs.Filled.{bare, bare_all, group_productions}
use Rattle.making_core.proofs.Fits.{none-left, none-right, passes}
use Rattle.making_core.proofs.GrammarFits.{groups_fit, nonterminals_fit}
use Rattle.state_core.proofs.Groupings.{HasGroups, IsOfWord, has_groups}
use Rattle.making_core.proofs.Productions.{IsMade, IsMadeGroup, groups_made, makes_over, makes_same, owners_of, types_of}
use Rattle.making_core.proofs.Terms.{number_within}

-- A grammar of nonterminals and groups.

abbrev grammar_from : Declarations → List (List ℕ) → List Pair → List Sexpr → List Nonterminal
grammar_from sig names pairs groups = map (nonterminal_of sig names) (zip pairs groups)

owners_from : (sig : Declarations) (names : List (List ℕ)) (pairs : List Pair) (groups : List Sexpr) → length groups ≡ length pairs → owners_of (grammar_from sig names pairs groups) ≡ types_of sig pairs
owners_from sig names [] [] count = refl
owners_from sig names [] (group ∷ groups) count = absurd (omega arith)
owners_from sig names (pair ∷ pairs) [] count = absurd (omega arith)
owners_from sig names (pair ∷ pairs) (group ∷ groups) count =
    let rest : length groups ≡ length pairs = omega arith in
    ap (λ ts. type_named sig pair.sort.bytes ∷ ts) (owners_from sig names pairs groups rest)

names_from : (sig : Declarations) (names : List (List ℕ)) (pairs : List Pair) (groups : List Sexpr) → length groups ≡ length pairs → names_of (grammar_from sig names pairs groups) ≡ names_in pairs
names_from sig names [] [] count = refl
names_from sig names [] (group ∷ groups) count = absurd (omega arith)
names_from sig names (pair ∷ pairs) [] count = absurd (omega arith)
names_from sig names (pair ∷ pairs) (group ∷ groups) count =
    let rest : length groups ≡ length pairs = omega arith in
    ap (λ ns. pair.name.bytes ∷ ns) (names_from sig names pairs groups rest)

count_from : (sig : Declarations) (names : List (List ℕ)) (pairs : List Pair) (groups : List Sexpr) → length groups ≡ length pairs →
    production_count (grammar_from sig names pairs groups) ≡ length (flat_map (items_at 2) groups)
count_from sig names [] [] count = refl
count_from sig names [] (group ∷ groups) count = absurd (omega arith)
count_from sig names (pair ∷ pairs) [] count = absurd (omega arith)
count_from sig names (pair ∷ pairs) (group ∷ groups) count =
    let rest : length groups ≡ length pairs = omega arith in
    let parts : length (items_at 2 group ++ flat_map (items_at 2) groups) ≡ length (items_at 2 group) + length (flat_map (items_at 2) groups) = length-append (items_at 2 group) (flat_map (items_at 2) groups) in
    let more : production_count (grammar_from sig names pairs groups) ≡ length (flat_map (items_at 2) groups) = count_from sig names pairs groups rest in
    let own : length (group_productions sig names group) ≡ length (items_at 2 group) = length-map (items_at 2 group) _ in
    omega (arith, parts, more, own, sum_by-cons (λ (n : Nonterminal). length n.productions) (nonterminal_of sig names (pair, group)) (grammar_from sig names pairs groups))

-- what is known of the nonterminals and groups of a command without faults
record AreClean (sig : Declarations) (pairs : List Pair) (groups : List Sexpr) : Type 0 where
  count : length groups ≡ length pairs
  some : 0 < length pairs
  few : length pairs ≤ 256
  few_productions : length (flat_map (items_at 2) groups) ≤ 4096
  made : All (IsMadeGroup sig pairs) (zip pairs groups)
  distinct : AreDistinct (names_in pairs)
  short : All NamesShort pairs
  new : All (λ pair. has (constructor_names sig.constructors) pair.name.bytes ≡ false) pairs

sound_nonterminal : (sig : Declarations) (pairs : List Pair) (grammar : List Nonterminal) → owners_of grammar ≡ types_of sig pairs → (group : Pair × Sexpr) → IsMadeGroup sig pairs group →
    IsSoundNonterminal sig grammar (nonterminal_of sig (names_in pairs) group)
sound_nonterminal sig pairs grammar same (pair, group) made = record {
  owner = made.declared;
  makes = All-weaker (IsMade sig (types_of sig pairs) (type_named sig pair.sort.bytes)) (λ p. makes grammar (type_named sig pair.sort.bytes) p.args (slice_get sig.constructors p.con.0) ≡ true)
      (λ p m. makes_same grammar (type_named sig pair.sort.bytes) p.args (slice_get sig.constructors p.con.0)
      ∙ ap (λ os. makes_over os (type_named sig pair.sort.bytes) p.args (slice_get sig.constructors p.con.0)) same ∙ m.makes) (group_productions sig (names_in pairs) group) made.productions;
}

known_nonterminal : (sig : Declarations) (pairs : List Pair) (grammar : List Nonterminal) → length grammar ≡ length (types_of sig pairs) → (group : Pair × Sexpr) → IsMadeGroup sig pairs group →
    All (λ p. All (IsKnown grammar) p.args) (nonterminal_of sig (names_in pairs) group).productions
known_nonterminal sig pairs grammar count (pair, group) made =
    All-weaker (IsMade sig (types_of sig pairs) (type_named sig pair.sort.bytes)) (λ p. All (IsKnown grammar) p.args)
    (λ p m. All-weaker (λ n. n.0 < length (types_of sig pairs)) (IsKnown grammar) (λ n k. let within : n.0 < length (types_of sig pairs) = k in omega (arith, within, count)) p.args m.args)
    (group_productions sig (names_in pairs) group) made.productions

groups_sound : (sig : Declarations) (pairs : List Pair) (groups : List Sexpr) → AreClean sig pairs groups → IsSoundGrammar sig (grammar_from sig (names_in pairs) pairs groups)
groups_sound sig pairs groups c =
    let make : Pair × Sexpr → Nonterminal = nonterminal_of sig (names_in pairs) in
    let g : List Nonterminal = grammar_from sig (names_in pairs) pairs groups in
    let same : owners_of g ≡ types_of sig pairs = owners_from sig (names_in pairs) pairs groups c.count in
    let as_many : length g ≡ length (types_of sig pairs) = sym (length-map g (λ (n : Nonterminal). n.owner)) ∙ ap length same in
    let size : length g ≡ length pairs = as_many ∙ length-map pairs (λ (p : Pair). type_named sig p.sort.bytes) in
    let named : names_of g ≡ names_in pairs = names_from sig (names_in pairs) pairs groups c.count in
    let productions : production_count g ≡ length (flat_map (items_at 2) groups) = count_from sig (names_in pairs) pairs groups c.count in
    let few : length pairs ≤ 256 = c.few in
    let some : 0 < length pairs = c.some in
    let few_productions : length (flat_map (items_at 2) groups) ≤ 4096 = c.few_productions in
    let free : All (λ name. place_of (constructor_names sig.constructors) name ≡ None) (names_in pairs) =
    All-map (λ name. place_of (constructor_names sig.constructors) name ≡ None) (λ (p : Pair). p.name.bytes) pairs
    (All-weaker (λ pair. has (constructor_names sig.constructors) pair.name.bytes ≡ false) (λ pair. place_of (constructor_names sig.constructors) pair.name.bytes ≡ None)
    (λ pair h. place-none (constructor_names sig.constructors) pair.name.bytes h) pairs c.new) in
    record {
      fine = record {
        size = omega (arith, size, few);
        known = All-map (λ n. All (λ p. All (IsKnown g) p.args) n.productions) make (zip pairs groups)
            (All-weaker (IsMadeGroup sig pairs) (λ z. All (λ p. All (IsKnown g) p.args) (make z).productions) (known_nonterminal sig pairs g as_many) (zip pairs groups) c.made);
      };
      limits = record {
        few = omega (arith, size, few);
        few_productions = omega (arith, productions, few_productions);
        distinct = subst AreDistinct (sym named) c.distinct;
      };
      has_start = omega (arith, size, some);
      nonterminals = All-map (IsSoundNonterminal sig g) make (zip pairs groups)
          (All-weaker (IsMadeGroup sig pairs) (λ z. IsSoundNonterminal sig g (make z)) (sound_nonterminal sig pairs g same) (zip pairs groups) c.made);
      short = subst (All IsShort) (sym named) (All-map IsShort (λ (p : Pair). p.name.bytes) pairs c.short);
      new = λ other. subst (All (λ name. place_of (constructor_names sig.constructors) name ≡ None)) (sym named) free;
    }

named_alike : (a b : List ℕ) → same_name a b ≡ true → b ≡ a
named_alike a b h = sym ((bytes_decides a b).0 h)

-- the start is of the type that is wanted
start_type : (sig : Declarations) (name : List ℕ) (names : List (List ℕ)) (pairs : List Pair) (groups : List Sexpr) → length groups ≡ length pairs → 0 < length pairs →
    first (start_faults name pairs) ≡ None → wanted_type (grammar_from sig names pairs groups) ≡ type_named sig name
start_type sig name names [] groups count some h = absurd (omega arith)
start_type sig name names (pair ∷ pairs) [] count some h = absurd (omega arith)
start_type sig name names (pair ∷ pairs) (group ∷ groups) count some h =
    let same : same_name name pair.sort.bytes ≡ true = not-false (same_name name pair.sort.bytes) (passes _ 30 pair.sort.place h) in
    ap (type_named sig) (named_alike name pair.sort.bytes same)

-- The grammar of all terms.

short_at : (types : List (List ℕ)) (k : ℕ) → All IsShort types → IsShort (get_or types k [])
short_at [] k all = omega arith
short_at (t ∷ types) zero all = All-head IsShort t types all
short_at (t ∷ types) (suc k) all = short_at types k (All-tail IsShort t types all)

all_types : (sig : Declarations) (type : TypeId) → IsDeclared (length sig.types) type → All (IsDeclared (length sig.types)) (types_in_order sig type)
all_types sig type declared = λ j d within.
    let count : length (types_in_order sig type) ≡ length sig.types = length-types sig type declared in
    let inside : j < length sig.types = omega (arith, within, count) in
    declared_at sig type declared j d inside

whole_nonterminals : (sig : Declarations) (type : TypeId) → IsWellFormed sig → IsDeclared (length sig.types) type → All (IsSoundNonterminal sig (whole sig type)) (whole sig type)
whole_nonterminals sig type fine declared =
    let g : List Nonterminal = whole sig type in
    let owners : All (λ n. IsDeclared (length sig.types) n.owner) g =
    All-map (λ n. IsDeclared (length sig.types) n.owner) (nonterminal_over sig type sig.constructors) (types_in_order sig type) (all_types sig type declared) in
    λ i d within. record { owner = owners i d within; makes = IsGrammarOf-whole sig type declared fine i d within }

whole_short : (sig : Declarations) (type : TypeId) → All IsShort sig.types → All IsShort (names_of (whole sig type))
whole_short sig type short =
    All-map IsShort (λ (n : Nonterminal). n.name) (whole sig type)
    (All-map (λ n. IsShort n.name) (nonterminal_over sig type sig.constructors) (types_in_order sig type) (λ j d within. short_at sig.types (get_or (types_in_order sig type) j d).0 short))

whole_sound : (sig : Declarations) (type : TypeId) → IsWellFormed sig → All IsShort sig.types → IsDeclared (length sig.types) type → IsSoundGrammar sig (whole sig type)
whole_sound sig type fine short declared =
    let size : length (whole sig type) ≡ length sig.types = length-whole sig type declared sig.constructors in
    let some : type.0 < length sig.types = declared in
    record {
      fine = IsGrammar-whole sig type declared fine;
      limits = KeepsLimits-whole sig type declared fine;
      has_start = omega (arith, size, some);
      nonterminals = whole_nonterminals sig type fine declared;
      short = whole_short sig type short;
      new = λ other. absurd (other refl);
    }

-- The command.

-- the passes find nothing in a `synth-fun` of right shape
pub record IsClean (sig : Declarations) (form : Sexpr) : Type 0 where
  pub word : IsOfWord head.SynthFun form
  pub limits : first (wanted_limits form) ≡ None
  pub names : first (wanted_names sig form) ≡ None
  pub sorts : first (wanted_faults sig form) ≡ None

wanted_declared : (sig : Declarations) (form : Sexpr) → IsClean sig form → IsDeclared (length sig.types) (type_named sig (atom_of (item_of 3 form)).bytes)
wanted_declared sig form c = number_within sig.types (atom_of (item_of 3 form)).bytes (ap not (wanted_named sig form c.names).type)

are_clean : (sig : Declarations) (form : Sexpr) → IsClean sig form → nat_lt 4 (length (parts_of form)) ≡ true → AreClean sig (nonterminals_of form) (items_at 5 form)
are_clean sig form c long =
    let room : HasRoom form = has_room form c.limits in
    let named : WantedNamed sig form = wanted_named sig form c.names in
    let shape : HasGroups (items_at 4 form) (items_at 5 form) = has_groups form c.word long in
    let many : length (nonterminals_of form) ≡ length (items_at 4 form) = length-map (items_at 4 form) pair_of in
    let some : 0 < length (items_at 4 form) = shape.some in
    record {
      count = shape.as_many ∙ sym many;
      some = omega (arith, many, some);
      few = room.few_nonterminals;
      few_productions = room.few_productions;
      made = groups_made sig (nonterminals_of form) (items_at 5 form) named.types named.groups (none-right (start_faults (atom_of (item_of 3 form)).bytes (nonterminals_of form)) _ c.sorts);
      distinct = named.new;
      short = room.short_nonterminals;
      new = named.others;
    }

bare_owners : (sig : Declarations) (pairs : List Pair) → owners_of (map (bare sig) pairs) ≡ types_of sig pairs
bare_owners sig [] = refl
bare_owners sig (pair ∷ pairs) = ap (λ ts. type_named sig pair.sort.bytes ∷ ts) (bare_owners sig pairs)

bare_count : (sig : Declarations) (pairs : List Pair) → production_count (map (bare sig) pairs) ≡ 0
bare_count sig [] = refl
bare_count sig (pair ∷ pairs) =
    let rest : production_count (map (bare sig) pairs) ≡ 0 = bare_count sig pairs in
    omega (arith, rest, sum_by-cons (λ (n : Nonterminal). length n.productions) (bare sig pair) (map (bare sig) pairs))

groups_of_fit : (sig : Declarations) (form : Sexpr) → IsClean sig form → nat_lt 4 (length (parts_of form)) ≡ true → GroupsOfFit sig form
groups_of_fit sig form c long =
    let pairs : List Pair = nonterminals_of form in
    let clean : AreClean sig pairs (items_at 5 form) = are_clean sig form c long in
    let begun : with_nonterminals sig [] pairs ≡ map (bare sig) pairs = bare_all sig [] pairs in
    let few : length pairs ≤ 256 = clean.few in
    let T : List Fault = unknown_name sig.types (atom_of (item_of 3 form)) in
    let N : List Fault = found (nonterminal_names sig) pairs in
    let G : List Fault = flat_map (group_names sig (names_in pairs)) (groups_of form) in
    record {
      few = clean.few;
      as_many = clean.count;
      nonterminals = nonterminals_fit sig [] pairs [] refl (omega (arith, few)) (none-right T N (none-left (T ++ N) G c.names));
      productions = groups_fit sig pairs (items_at 5 form) (with_nonterminals sig [] pairs) clean.count
          (ap owners_of begun ∙ bare_owners sig pairs) (ap production_count begun ∙ bare_count sig pairs) clean.made clean.few_productions;
    }

pub wanted_fits : (sig : Declarations) (form : Sexpr) → IsClean sig form → WantedFits sig form
wanted_fits sig form c = record { type = wanted_declared sig form c; groups = groups_of_fit sig form c }

-- the grammar is sound, and its start of the wanted type
abbrev Sound : Declarations → TypeId → List Nonterminal → Type 0
Sound sig type grammar = IsSoundGrammar sig grammar × (wanted_type grammar ≡ type)

sound_by : (sig : Declarations) (form : Sexpr) (b : Bool) → nat_lt 4 (length (parts_of form)) ≡ b → IsWellFormed sig → All IsShort sig.types → IsClean sig form →
    Sound sig (type_named sig (atom_of (item_of 3 form)).bytes)
    (if b then grammar_from sig (names_in (nonterminals_of form)) (nonterminals_of form) (items_at 5 form) else whole sig (type_named sig (atom_of (item_of 3 form)).bytes))
sound_by sig form true long fine short c =
    let name : List ℕ = (atom_of (item_of 3 form)).bytes in
    let pairs : List Pair = nonterminals_of form in
    let clean : AreClean sig pairs (items_at 5 form) = are_clean sig form c long in
    (groups_sound sig pairs (items_at 5 form) clean, start_type sig name (names_in pairs) pairs (items_at 5 form) clean.count clean.some (none-left (start_faults name pairs) _ c.sorts))
sound_by sig form false long fine short c =
    let type : TypeId = type_named sig (atom_of (item_of 3 form)).bytes in
    (whole_sound sig type fine short (wanted_declared sig form c), refl)

grammar_sound : (sig : Declarations) (form : Sexpr) → IsWellFormed sig → All IsShort sig.types → IsClean sig form → Sound sig (type_named sig (atom_of (item_of 3 form)).bytes) (grammar_of sig form)
grammar_sound sig form fine short c = sound_by sig form (nat_lt 4 (length (parts_of form))) refl fine short c

no_constraints : (sig : Declarations) (constraints : List Constraint) (is_over : Bool) (wanted : Option Wanted) → not (is_some wanted) ≡ true → IsSoundWanted sig constraints is_over wanted → constraints ≡ []
no_constraints sig constraints is_over None none h = h.0
no_constraints sig constraints is_over (Some w) none h = absurd (cc)

wanted_sound : (s : State) (form : Sexpr) → may_come s head.SynthFun ≡ true → IsSoundState s → IsClean s.signature form → IsSoundWanted s.signature s.constraints s.is_over (Some (wanted_of s.signature form))
wanted_sound s form come sound c =
    let sig : Declarations = s.signature in
    let both = grammar_sound sig form sound.signature sound.names.types c in
    let type : TypeId = type_named sig (atom_of (item_of 3 form)).bytes in
    let none : s.constraints ≡ [] = no_constraints sig s.constraints s.is_over s.wanted come sound.wanted in
    ((has_room form c.limits).short, both.0, both.1, subst (All (IsSoundConstraint sig type)) (sym none) (All-nil (IsSoundConstraint sig type)))

pub clean : (s : State) (form : Sexpr) → IsOfWord head.SynthFun form → first (faults_in s head.SynthFun form) ≡ None → IsClean s.signature form
clean s form word fine =
    let L : List Fault = wanted_limits form in
    let N : List Fault = wanted_names s.signature form in
    let S : List Fault = wanted_faults s.signature form in
    let all : first (L ++ N ++ S) ≡ None = none-left (L ++ N ++ S) [] fine in
    let front : first (L ++ N) ≡ None = none-left (L ++ N) S all in
    record { word = word; limits = none-left L N front; names = none-right L N front; sorts = none-right (L ++ N) S all }

-- the function that a command without faults wants was put
pub wanted_taken : (s new : State) (form : Sexpr) → may_come s head.SynthFun ≡ true → IsSoundState s → IsOfWord head.SynthFun form → first (faults_in s head.SynthFun form) ≡ None →
    new ≡ added s head.SynthFun form → IsTaken s head.SynthFun form new
wanted_taken s new form come sound word fine is =
    let after : IsSoundState (added s head.SynthFun form) = record {
      signature = sound.signature;
      names = sound.names;
      free_names = sound.free_names;
      few_rules = sound.few_rules;
      rules = sound.rules;
      few_constraints = sound.few_constraints;
      wanted = wanted_sound s form come sound (clean s form word fine);
    } in
    record { fine = fine; is_added = is; sound = subst IsSoundState (sym is) after }
