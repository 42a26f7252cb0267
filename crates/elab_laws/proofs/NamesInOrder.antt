-- The wrong names of types, grammars and examples are found from the left, and so those of each command.
use Rattle.std.proofs.Common.{◌≡◌, ℕ, ◌+◌, ◌<◌, ◌≤◌, Bool, true, false, Option, Some, None, is_some, is_none, List, [], ◌∷◌, ◌++◌, map, slice_get, refl, sym, ap, ◌∙◌, subst, arith}
use Rattle.std.specs.Prelude.{not, ◌||◌, unwrap_or, if◌then◌else◌}
use Rattle.std.specs.List.{flat_map, zip}
use Rattle.std.specs.Option.{option_map_or}
use Rattle.sig_core.specs.Names.{same_name}
use Rattle.sig_core.specs.Signatures.{Declarations}
use Rattle.sig_core.specs.WellFormed.{constructor_names, relation_names}
use Rattle.sexpr_core.specs.declared.form.Atom.{Atom}
use Rattle.sexpr_core.specs.declared.form.Sexpr.{Sexpr}
use Rattle.sexpr_core.specs.Access.{items_of, place_of, symbol_of, parts_of, item_of, others_of}
use Rattle.syntax_core.specs.declared.commands.Head.{Head}
use Rattle.syntax_core.specs.declared.commands.Head.TheVariants as head
use Rattle.syntax_core.specs.declared.fault.Fault.{Fault}
use Rattle.syntax_core.specs.declared.roles.Due.TheVariants.{One, Many}
use Rattle.syntax_core.specs.declared.roles.Role.TheVariants as role
use Rattle.syntax_core.specs.declared.syntax.Application.{Application}
use Rattle.syntax_core.specs.declared.syntax.Exp.{Exp}
use Rattle.syntax_core.specs.declared.syntax.Pair.{Pair}
use Rattle.syntax_core.specs.declared.syntax.Pattern.{Pattern}
use Rattle.syntax_core.specs.Literals.{literal_named}
use Rattle.syntax_core.specs.Roles.{are_of_command, due_in_command, head_of}
use Rattle.syntax_core.specs.Shapes.{HasShape, refusal}
use Rattle.syntax_core.specs.Syntax.{atom_of, call_of, calls_of, deepest, expression_of, items_at, nonterminals_of, pair_of, pattern_of, symbol_of_exp, type_names}
use Rattle.syntax_core.proofs.ListExps.{expression-Keyword, expression-Numeral, expression-Symbol, expression-Text, symbol-List, symbol-Numeral, symbol-Symbol}
use Rattle.name_core.specs.Faults.{bad_if, first, found, shapes}
use Rattle.name_core.specs.Names.{argument_names, call_names, constructors_in, example_names, group_names, groups_of, has, names, names_in, nonterminal_names, production_names, sort_names, taken_name, texts, types_names, unhad_name, unknown_name, wanted_names}
use Rattle.name_core.specs.States.{State, Wanted}
use Rattle.making_core.proofs.FormInduction.{by_items}
use Rattle.making_core.proofs.ShapedForms.{at-Keyword, at-Symbol, at-Text, false_true, fit_of, listed}
use Rattle.elab_laws.specs.Places.{AreInOrder, places_in}
use Rattle.elab_laws.proofs.Chains.{Chain, InOrder, Such, chain_flat, chain_higher, chain_lower, chain_map, faults_after, faults_each, nothing, order_joined, span_place}
use Rattle.elab_laws.proofs.InPlaces.{AtomIn, ExpIn, PairIn, PatternIn, items_chain, pairs_chain, pattern_in, shape_of_item, three_items}
use Rattle.elab_laws.proofs.LimitOrder.{Command, Ranked, calls_chain, command_of, example_span, group_chain, none_ranked, ranked_in_order, role_chain, type_in}
use Rattle.elab_laws.proofs.NameOrder.{bad_one, bad_within, constructor_order, functions_ranked, list_in, pattern_of_group, taken_order, then_after, unknown_order}
use Rattle.elab_laws.proofs.Rising.{bounds}
use Rattle.elab_laws.proofs.SpelledPlaces.{Spans, level_within}

-- Types and constructors.

-- where the types and constructors of a command stand
pub record TermsIn (form : Sexpr) : Type 0 where
  pub low : ℕ
  pub middle : ℕ
  pub high : ℕ
  pub types : Chain AtomIn low (type_names form) middle
  pub constructors : Chain PatternIn middle (constructors_in form) high

terms_in : (low : ℕ) (form : Sexpr) (high : ℕ) → Command head.DeclareTermTypes form → Spans low form high → TermsIn form
terms_in low form high c h = by c.others c.is c.fit c.shaped
  where
    by : (others : List Sexpr) → parts_of form ≡ c.word ∷ others → are_of_command head.DeclareTermTypes others ≡ true →
        ((k : ℕ) (item : Sexpr) → slice_get (c.word ∷ others) k ≡ Some item → HasShape (due_in_command (Some head.DeclareTermTypes) k) item) → TermsIn form
    by [] is fit shaped = absurd (false_true fit)
    by (a ∷ []) is fit shaped = absurd (false_true fit)
    by (names ∷ groups ∷ []) is fit shaped =
        let s = items_chain low form high (c.word ∷ names ∷ groups ∷ []) is h in
        let names_is : items_at 1 form ≡ parts_of names = ap (λ ps. option_map_or parts_of (slice_get ps 1) []) is in
        let groups_is : items_at 2 form ≡ parts_of groups = ap (λ ps. option_map_or parts_of (slice_get ps 2) []) is in
        let t = chain_map (Such (HasShape (One role.TypeName))) AtomIn (λ form. (pair_of form).name) type_in s.4.0 (parts_of names) s.4.1 (role_chain role.TypeName s.4.0 names s.4.1 (shaped 1 names refl) s.4.3) in
        let g = chain_map (Such (HasShape (One role.Constructor))) PatternIn pattern_of pattern_of_group s.4.4.0 (flat_map parts_of (parts_of groups)) s.4.4.1
        (chain_flat (Such (HasShape (One role.Group))) (Such (HasShape (One role.Constructor))) parts_of group_chain s.4.4.0 (parts_of groups) s.4.4.1
        (role_chain role.Group s.4.4.0 groups s.4.4.1 (shaped 2 groups refl) s.4.4.3)) in
        record {
          low = s.4.0;
          middle = s.4.1;
          high = s.4.4.1;
          types = subst (λ fs. Chain AtomIn s.4.0 (map (λ form. (pair_of form).name) fs) s.4.1) (sym names_is) t;
          constructors = subst (λ fs. Chain PatternIn s.4.1 (map pattern_of (flat_map parts_of fs)) s.4.4.1) (sym groups_is)
              (chain_lower PatternIn s.4.4.0 s.4.1 (map pattern_of (flat_map parts_of (parts_of groups))) s.4.4.1 s.4.4.2 g);
        }
    by (a ∷ b ∷ d ∷ others) is fit shaped = absurd (false_true fit)

types_ranked : (sig : Declarations) (low : ℕ) (form : Sexpr) (high : ℕ) → Command head.DeclareTermTypes form → Spans low form high → Ranked (types_names sig form)
types_ranked sig low form high c h =
    let t = terms_in low form high c h in
    let find : List Pattern → Pattern → List Fault = λ before con. taken_name (constructor_names sig.constructors ++ map (λ c. c.name.bytes) before) con.name ++ flat_map (unknown_name (sig.types ++ texts (type_names form))) con.variables in (
      t.low,
      t.high,
      order_joined t.low (found (λ before name. taken_name (sig.types ++ texts before ++ sort_names) name) (type_names form)) t.middle (found find (constructors_in form)) t.high
          (faults_after AtomIn (λ before name. taken_name (sig.types ++ texts before ++ sort_names) name) (λ before low name high s. taken_order (sig.types ++ texts before ++ sort_names) low name high s) [] t.low (type_names form) t.middle t.types)
          (faults_after PatternIn find (constructor_order sig (type_names form)) [] t.middle (constructors_in form) t.high t.constructors),
    )

-- Grammars.

abbrev pub GroupIn : ℕ → Pair × Sexpr → ℕ → Type 0
GroupIn low (pair, group) high = Such (HasShape (One role.Nonterminal)) low group high

abbrev Nonterminals : ℕ → List Sexpr → ℕ → Type 0
Nonterminals low groups high = Chain (Such (HasShape (One role.Nonterminal))) low groups high

groups_bound : (low : ℕ) (groups : List Sexpr) (high : ℕ) → Nonterminals low groups high → low ≤ high
groups_bound low [] high h = h
groups_bound low (g ∷ gs) high h =
    let here = h.2 in let most = bounds h.0 (places_in g) h.1 h.3.1 in let more = groups_bound h.1 gs high h.4 in
    omega (arith, here, most, more)

zip_chain : (low : ℕ) (pairs : List Pair) (groups : List Sexpr) (high : ℕ) → Nonterminals low groups high → Chain GroupIn low (zip pairs groups) high
zip_chain low [] groups high h = groups_bound low groups high h
zip_chain low (p ∷ ps) [] high h = h
zip_chain low (p ∷ ps) (g ∷ gs) high h = (h.0, h.1, h.2, h.3, zip_chain h.1 ps gs high h.4)

unhad_order : (wanted others : List (List ℕ)) (low : ℕ) (form : Sexpr) (high : ℕ) → AtomIn low (atom_of form) high → InOrder low (unhad_name wanted others form) high
unhad_order wanted others low form high h = by (is_none (symbol_of form)) (has wanted (atom_of form).bytes) (has others (atom_of form).bytes)
  where
    one : (reason : ℕ) → reason < 256 → InOrder low (refusal (place_of form) reason ∷ []) high
    one reason r = let from = h.0 in let to = h.1 in (omega (arith, from), r, omega arith, omega (arith, to, r))

    by : (none known other : Bool) → InOrder low (if none then refusal (place_of form) 13 ∷ [] else if known then [] else refusal (place_of form) (if other then 13 else 20) ∷ []) high
    by true known other = one 13 (omega arith)
    by false true other = let from = h.0 in let to = h.1 in nothing low high (omega (arith, from, to))
    by false false true = one 13 (omega arith)
    by false false false = one 20 (omega arith)

-- a form whose node stands within these bounds
abbrev Stands : ℕ → Sexpr → ℕ → Type 0
Stands low form high = AtomIn low (atom_of form) high

stands_each : (low : ℕ) (forms : List Sexpr) (high : ℕ) → Chain AtomIn low (map atom_of forms) high → Chain Stands low forms high
stands_each low [] high h = h
stands_each low (f ∷ fs) high h = (h.0, h.1, h.2, h.3, stands_each h.1 fs high h.4)

production_order : (nonterminals constructors : List (List ℕ)) (low : ℕ) (form : Sexpr) (high : ℕ) → Such (HasShape (One role.Production)) low form high → InOrder low (production_names nonterminals constructors form) high
production_order nonterminals constructors low form high h = by (is_some (symbol_of form)) refl
  where
    by : (b : Bool) → is_some (symbol_of form) ≡ b →
        InOrder low (if b then unhad_name constructors nonterminals form else unknown_name constructors (atom_of (item_of 0 form)) ++ flat_map (unhad_name nonterminals constructors) (others_of form)) high
    by true is = unhad_order constructors nonterminals low form high (span_place low form high h.1)
    by false is =
        let p = pattern_in low form high (fit_of h.0) h.1 in
        let name : (pattern_of form).name ≡ atom_of (item_of 0 form) = ap (λ b. if b then atom_of form else atom_of (item_of 0 form)) is in
        let a = p.0 in let b = p.1 in
        let from : low ≤ (atom_of (item_of 0 form)).place = subst (λ (x : Atom). low ≤ x.place) name (omega (arith, a, b)) in
        then_after low (not (has constructors (atom_of (item_of 0 form)).bytes)) 20 (atom_of (item_of 0 form)) (flat_map (unhad_name nonterminals constructors) (others_of form)) high (omega arith) from
        (faults_each Stands (unhad_name nonterminals constructors) (unhad_order nonterminals constructors) (place_of (item_of 0 form) + 1) (others_of form) high
        (stands_each (place_of (item_of 0 form) + 1) (others_of form) high (subst (λ (x : Atom). Chain AtomIn (x.place + 1) (map atom_of (others_of form)) high) name p.2)))

-- a group: its name, its type and its productions
pub record GroupParts (low : ℕ) (group : Sexpr) (high : ℕ) : Type 0 where
  pub name : low ≤ place_of (item_of 0 group)
  pub type : place_of (item_of 0 group) < place_of (item_of 1 group)
  pub productions : Chain (Such (HasShape (One role.Production))) (place_of (item_of 1 group) + 1) (items_at 2 group) high

pub group_parts : (low : ℕ) (group : Sexpr) (high : ℕ) → Such (HasShape (One role.Nonterminal)) low group high → GroupParts low group high
group_parts low group high h =
    let three = three_items (parts_of group) (listed 3 (items_of group) (fit_of h.0)) in
    let c = items_chain low group high (three.0 ∷ three.1 ∷ three.2 ∷ []) three.3 h.1 in
    let node = span_place low group high h.1 in
    let a = span_place c.0 three.0 c.1 c.3 in
    let b = span_place c.4.0 three.1 c.4.1 c.4.3 in
    let n0 = node.0 in let a0 = a.0 in let a1 = a.1 in let b0 = b.0 in let b1 = b.1 in let c2 = c.2 in let c42 = c.4.2 in let c442 = c.4.4.2 in let end = c.4.4.4 in
    let name : place_of (item_of 0 group) ≡ place_of three.0 = ap (λ ps. place_of (unwrap_or (slice_get ps 0) group)) three.3 in
    let type : place_of (item_of 1 group) ≡ place_of three.1 = ap (λ ps. place_of (unwrap_or (slice_get ps 1) group)) three.3 in
    let items : items_at 2 group ≡ parts_of three.2 = ap (λ ps. option_map_or parts_of (slice_get ps 2) []) three.3 in
    let shape : HasShape (Many role.Production) three.2 = shape_of_item (One role.Nonterminal) group (three.0 ∷ three.1 ∷ three.2 ∷ []) three.3 h.0 2 three.2 refl in
    record {
      name = omega (arith, name, n0, a0, c2);
      type = omega (arith, name, type, a1, c42, b0);
      productions = subst (λ fs. Chain (Such (HasShape (One role.Production))) (place_of (item_of 1 group) + 1) fs high) (sym items)
          (chain_lower (Such (HasShape (One role.Production))) c.4.4.0 (place_of (item_of 1 group) + 1) (parts_of three.2) high (omega (arith, type, b1, c442))
          (chain_higher (Such (HasShape (One role.Production))) c.4.4.0 (parts_of three.2) c.4.4.1 high end (role_chain role.Production c.4.4.0 three.2 c.4.4.1 shape c.4.4.3)));
    }

group_order : (sig : Declarations) (nonterminals : List (List ℕ)) (low : ℕ) (both : Pair × Sexpr) (high : ℕ) → GroupIn low both high → InOrder low (group_names sig nonterminals both) high
group_order sig nonterminals low (pair, group) high h =
    let g = group_parts low group high h in
    let a = g.name in let b = g.type in
    order_joined low (unknown_name (pair.name.bytes ∷ []) (atom_of (item_of 0 group)) ++ unknown_name sig.types (atom_of (item_of 1 group))) (place_of (item_of 1 group) + 1)
    (flat_map (production_names nonterminals (constructor_names sig.constructors)) (items_at 2 group)) high
    (then_after low (not (has (pair.name.bytes ∷ []) (atom_of (item_of 0 group)).bytes)) 20 (atom_of (item_of 0 group)) (unknown_name sig.types (atom_of (item_of 1 group))) (place_of (item_of 1 group) + 1) (omega arith) a
    (bad_one (not (has sig.types (atom_of (item_of 1 group)).bytes)) 20 (place_of (item_of 1 group)) (place_of (item_of 0 group) + 1) (omega arith) (omega (arith, b))))
    (faults_each (Such (HasShape (One role.Production))) (production_names nonterminals (constructor_names sig.constructors)) (production_order nonterminals (constructor_names sig.constructors))
    (place_of (item_of 1 group) + 1) (items_at 2 group) high g.productions)

nonterminal_order : (sig : Declarations) (before : List Pair) (low : ℕ) (pair : Pair) (high : ℕ) → PairIn low pair high → InOrder low (nonterminal_names sig before pair) high
nonterminal_order sig before low pair high h =
    let a = h.0 in let b = h.1 in let c = h.2 in
    then_after low (has (names_in before ++ constructor_names sig.constructors) pair.name.bytes) 21 pair.name (unknown_name sig.types pair.sort) high (omega arith) (omega (arith, a, b))
    (unknown_order sig.types (pair.name.place + 1) pair.sort high (omega (arith, c), h.3))

-- where the type, the nonterminals and the groups of a `synth-fun` stand
pub record WantedIn (form : Sexpr) : Type 0 where
  pub low : ℕ
  pub first : ℕ
  pub second : ℕ
  pub high : ℕ
  pub type : AtomIn low (atom_of (item_of 3 form)) first
  pub nonterminals : Chain PairIn first (nonterminals_of form) second
  pub groups : Chain GroupIn second (groups_of form) high

pub wanted_in : (low : ℕ) (form : Sexpr) (high : ℕ) → Command head.SynthFun form → Spans low form high → WantedIn form
wanted_in low form high c h = by c.others c.is c.fit c.shaped
  where
    by : (others : List Sexpr) → parts_of form ≡ c.word ∷ others → are_of_command head.SynthFun others ≡ true →
        ((k : ℕ) (item : Sexpr) → slice_get (c.word ∷ others) k ≡ Some item → HasShape (due_in_command (Some head.SynthFun) k) item) → WantedIn form
    by [] is fit shaped = absurd (false_true fit)
    by (a ∷ []) is fit shaped = absurd (false_true fit)
    by (a ∷ b ∷ []) is fit shaped = absurd (false_true fit)
    by (name ∷ params ∷ type ∷ []) is fit shaped =
        let s = items_chain low form high (c.word ∷ name ∷ params ∷ type ∷ []) is h in
        let type_is : item_of 3 form ≡ type = ap (λ ps. unwrap_or (slice_get ps 3) form) is in
        let none : nonterminals_of form ≡ [] = ap (λ ps. map pair_of (option_map_or parts_of (slice_get ps 4) [])) is in
        let t = s.4.4.4 in
        record {
          low = t.0;
          first = t.1;
          second = t.1;
          high = t.1;
          type = subst (λ (f : Sexpr). AtomIn t.0 (atom_of f) t.1) (sym type_is) (span_place t.0 type t.1 t.3);
          nonterminals = subst (λ ps. Chain PairIn t.1 ps t.1) (sym none) (omega arith);
          groups = subst (λ ps. Chain GroupIn t.1 (zip ps (items_at 5 form)) t.1) (sym none) (omega arith);
        }
    by (name ∷ params ∷ type ∷ d ∷ []) is fit shaped = absurd (false_true fit)
    by (name ∷ params ∷ type ∷ names ∷ groups ∷ []) is fit shaped =
        let s = items_chain low form high (c.word ∷ name ∷ params ∷ type ∷ names ∷ groups ∷ []) is h in
        let type_is : item_of 3 form ≡ type = ap (λ ps. unwrap_or (slice_get ps 3) form) is in
        let names_is : nonterminals_of form ≡ map pair_of (parts_of names) = ap (λ ps. map pair_of (option_map_or parts_of (slice_get ps 4) [])) is in
        let groups_is : items_at 5 form ≡ parts_of groups = ap (λ ps. option_map_or parts_of (slice_get ps 5) []) is in
        let t = s.4.4.4 in let n = s.4.4.4.4 in let g = s.4.4.4.4.4 in
        let pairs = chain_lower PairIn n.0 t.1 (map pair_of (parts_of names)) n.1 n.2 (pairs_chain n.0 names n.1 (shaped 4 names refl) n.3) in
        let zipped = zip_chain n.1 (nonterminals_of form) (parts_of groups) g.1
        (chain_lower (Such (HasShape (One role.Nonterminal))) g.0 n.1 (parts_of groups) g.1 g.2 (role_chain role.Nonterminal g.0 groups g.1 (shaped 5 groups refl) g.3)) in
        record {
          low = t.0;
          first = t.1;
          second = n.1;
          high = g.1;
          type = subst (λ (f : Sexpr). AtomIn t.0 (atom_of f) t.1) (sym type_is) (span_place t.0 type t.1 t.3);
          nonterminals = subst (λ ps. Chain PairIn t.1 ps n.1) (sym names_is) pairs;
          groups = subst (λ gs. Chain GroupIn n.1 (zip (nonterminals_of form) gs) g.1) (sym groups_is) zipped;
        }
    by (name ∷ params ∷ type ∷ d ∷ e ∷ f ∷ others) is fit shaped = absurd (false_true fit)

wanted_ranked : (sig : Declarations) (low : ℕ) (form : Sexpr) (high : ℕ) → Command head.SynthFun form → Spans low form high → Ranked (wanted_names sig form)
wanted_ranked sig low form high c h =
    let w = wanted_in low form high c h in (
      w.low,
      w.high,
      order_joined w.low (unknown_name sig.types (atom_of (item_of 3 form)) ++ found (nonterminal_names sig) (nonterminals_of form)) w.second (flat_map (group_names sig (names_in (nonterminals_of form))) (groups_of form)) w.high
          (order_joined w.low (unknown_name sig.types (atom_of (item_of 3 form))) w.first (found (nonterminal_names sig) (nonterminals_of form)) w.second (unknown_order sig.types w.low (atom_of (item_of 3 form)) w.first w.type)
          (faults_after PairIn (nonterminal_names sig) (nonterminal_order sig) [] w.first (nonterminals_of form) w.second w.nonterminals))
          (faults_each GroupIn (group_names sig (names_in (nonterminals_of form))) (group_order sig (names_in (nonterminals_of form))) w.second (groups_of form) w.high w.groups),
    )

-- Examples.

abbrev pub CallIn : ℕ → Application → ℕ → Type 0
CallIn low call high = (low ≤ call.place) × (call.place ≤ call.head.place) × Chain ExpIn (call.head.place + 1) call.args high

call_in : (low : ℕ) (form : Sexpr) (high : ℕ) → Spans low form high → CallIn low (call_of form) high
call_in low form high h =
    let level = level_within low form high h in
    let l = list_in (place_of form) (parts_of form) high level.1 in
    (level.0, l.from, l.args)

-- the examples of a constraint stand within some bounds
pub record ExamplesIn (form : Sexpr) : Type 0 where
  pub low : ℕ
  pub high : ℕ
  pub calls : Chain CallIn low (calls_of deepest (item_of 1 form)) high

pub examples_in : (low : ℕ) (form : Sexpr) (high : ℕ) → Spans low form high → ExamplesIn form
examples_in low form high h =
    let s = example_span low form high h in
    record { low = s.0; high = s.1; calls = calls_chain CallIn call_in deepest s.0 (item_of 1 form) s.1 s.2 }

-- a symbol stands where its form does
pub symbol_place : (form : Sexpr) (a : Atom) → symbol_of_exp (expression_of form) ≡ Some a → a.place ≡ place_of form
symbol_place = by_items (λ form. (a : Atom) → symbol_of_exp (expression_of form) ≡ Some a → a.place ≡ place_of form)
    (λ a x is. let same : Some a ≡ Some x = sym (ap symbol_of_exp (expression-Symbol a) ∙ symbol-Symbol a) ∙ is in let e : a ≡ x = cc in sym (at-Symbol a ∙ ap (λ (y : Atom). y.place) e))
    (λ a x is. let same : None ≡ Some x = sym (ap symbol_of_exp (expression-Numeral a) ∙ symbol-Numeral a) ∙ is in absurd (cc))
    (λ a x is. let same : Some a ≡ Some x = sym (ap symbol_of_exp (expression-Text a) ∙ symbol-Symbol a) ∙ is in let e : a ≡ x = cc in sym (at-Text a ∙ ap (λ (y : Atom). y.place) e))
    (λ a x is. let same : Some a ≡ Some x = sym (ap symbol_of_exp (expression-Keyword a) ∙ symbol-Symbol a) ∙ is in let e : a ≡ x = cc in sym (at-Keyword a ∙ ap (λ (y : Atom). y.place) e))
    (λ n all x is. let same : None ≡ Some x = sym (symbol-List n) ∙ is in absurd (cc))

argument_order : (wanted : List ℕ) (low : ℕ) (e : Exp) (high : ℕ) → ExpIn low e high → InOrder low (argument_names wanted e) high
argument_order wanted low e high h = subst (λ x. InOrder low (argument_names wanted x) high) (sym h.1) (by (symbol_of_exp (expression_of h.0)) refl)
  where
    by : (o : Option Atom) → symbol_of_exp (expression_of h.0) ≡ o → InOrder low (option_map_or (λ a. bad_if (not (same_name wanted a.bytes || is_some (literal_named a.bytes))) 20 a.place) o []) high
    by None is = nothing low high (bounds low (places_in h.0) high h.2)
    by (Some a) is =
        let node = span_place low h.0 high h.2 in let from = node.0 in let to = node.1 in let at = symbol_place h.0 a is in
        bad_within (not (same_name wanted a.bytes || is_some (literal_named a.bytes))) 20 a.place low high (omega arith) (omega (arith, at, from)) (omega (arith, at, to))

call_order : (sig : Declarations) (wanted : List ℕ) (low : ℕ) (call : Application) (high : ℕ) → CallIn low call high → InOrder low (call_names sig wanted call) high
call_order sig wanted low call high h =
    let a = h.0 in let b = h.1 in
    then_after low (not (has (relation_names sig.relations) call.head.bytes)) 20 call.head (flat_map (argument_names wanted) call.args) high (omega arith) (omega (arith, a, b))
    (faults_each ExpIn (argument_names wanted) (argument_order wanted) (call.head.place + 1) call.args high h.2)

examples_ranked : (sig : Declarations) (wanted : Option Wanted) (low : ℕ) (form : Sexpr) (high : ℕ) → Spans low form high → Ranked (example_names sig wanted (calls_of deepest (item_of 1 form)))
examples_ranked sig None low form high h = none_ranked
examples_ranked sig (Some wanted) low form high h =
    let e = examples_in low form high h in
    (e.low, e.high, faults_each CallIn (call_names sig wanted.name) (call_order sig wanted.name) e.low (calls_of deepest (item_of 1 form)) e.high e.calls)

-- Commands.

names_ranked : (s : State) (h : Head) (low : ℕ) (form : Sexpr) (high : ℕ) → Command h form → Spans low form high → Ranked (names s h form)
names_ranked s head.SetInfo low form high c span = none_ranked
names_ranked s head.DeclareTermTypes low form high c span = types_ranked s.signature low form high c span
names_ranked s head.DefineFunsRec low form high c span = functions_ranked s.signature low form high c span
names_ranked s head.SynthFun low form high c span = wanted_ranked s.signature low form high c span
names_ranked s head.Constraint low form high c span = examples_ranked s.signature s.wanted low form high span
names_ranked s head.CheckSynth low form high c span = none_ranked

pub names_in_order : (s : State) (h : Head) (low : ℕ) (form : Sexpr) (high : ℕ) → head_of (parts_of form) ≡ Some h → first (shapes form) ≡ None → Spans low form high → AreInOrder (names s h form)
names_in_order s h low form high word none span = ranked_in_order (names s h form) (names_ranked s h low form high (command_of h form word none) span)
