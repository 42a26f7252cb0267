-- Where functions and calls stand in commands of right shape.
use Rattle.std.proofs.Common.{◌≡◌, ℕ, ◌+◌, ◌<◌, ◌≤◌, Bool, true, false, List, [], ◌∷◌, ◌++◌, map, slice_get, refl, sym, ap, ap₂, subst, arith}
use Rattle.std.specs.Prelude.{◌&&◌, codes, unwrap_or, if◌then◌else◌}
use Rattle.sexpr_core.specs.declared.form.Atom.{Atom}
use Rattle.sexpr_core.specs.declared.form.Sexpr.{Sexpr}
use Rattle.sexpr_core.specs.Access.{items_of, place_of, parts_of, item_of}
use Rattle.syntax_core.specs.declared.roles.Due.TheVariants.{One, Many}
use Rattle.syntax_core.specs.declared.roles.Role.TheVariants as role
use Rattle.syntax_core.specs.declared.syntax.Case.{Case}
use Rattle.syntax_core.specs.declared.syntax.Declaration.{Declaration}
use Rattle.syntax_core.specs.declared.syntax.Definition.{Definition}
use Rattle.syntax_core.specs.declared.syntax.Function.{Function}
use Rattle.syntax_core.specs.Roles.{are_of_definition, are_of_match, have_attributes, may_be}
use Rattle.syntax_core.specs.Shapes.{HasShape}
use Rattle.syntax_core.specs.Syntax.{case_of, declaration_of, definition_of, functions_from, has_outputs_first, pairs_of, symbols_of}
use Rattle.name_core.specs.Bodies.{Site, sites_of}
use Rattle.name_core.specs.Names.{attributes_of}
use Rattle.making_core.proofs.ShapedForms.{false_true, fit_of, item_shape, listed, passes_parts}
use Rattle.elab_laws.specs.Places.{places_in}
use Rattle.elab_laws.proofs.Chains.{Chain, Such, all_at, chain_flat, chain_higher, chain_joined, chain_lower, chain_map, span_parts, span_place, such_chain}
use Rattle.elab_laws.proofs.InPlaces.{AtomIn, CaseIn, PairIn, atoms_chain, case_in, items_chain, pairs_chain, shape_of_item, three_items}
use Rattle.elab_laws.proofs.Rising.{bounds}
use Rattle.elab_laws.proofs.SpelledPlaces.{Spans}

-- Declarations.

abbrev pub DeclarationIn : ℕ → Declaration → ℕ → Type 0
DeclarationIn low d high = (low ≤ d.place) × (d.place < d.name.place) × Chain PairIn (d.name.place + 1) d.params high

pub declaration_in : (low : ℕ) (form : Sexpr) (high : ℕ) → HasShape (One role.Declaration) form → Spans low form high → DeclarationIn low (declaration_of form) high
declaration_in low form high shape h =
    let three = three_items (parts_of form) (listed 3 (items_of form) (fit_of shape)) in
    let c = items_chain low form high (three.0 ∷ three.1 ∷ three.2 ∷ []) three.3 h in
    let node = span_place low form high h in
    let a = span_place c.0 three.0 c.1 c.3 in
    let n0 = node.0 in let a0 = a.0 in let a1 = a.1 in let c2 = c.2 in let c42 = c.4.2 in
    let last = span_place c.4.4.0 three.2 c.4.4.1 c.4.4.3 in
    let l0 = last.0 in let l1 = last.1 in let c442 = c.4.4.2 in let end = c.4.4.4 in
    let second : HasShape (Many role.Pair) three.1 = shape_of_item (One role.Declaration) form (three.0 ∷ three.1 ∷ three.2 ∷ []) three.3 shape 1 three.1 refl in
    let name : place_of (item_of 0 form) ≡ place_of three.0 = ap (λ ps. place_of (unwrap_or (slice_get ps 0) form)) three.3 in
    let params_is : item_of 1 form ≡ three.1 = ap (λ ps. unwrap_or (slice_get ps 1) form) three.3 in (
      n0,
      omega (arith, name, c2, a0),
      subst (λ (f : Sexpr). Chain PairIn (place_of (item_of 0 form) + 1) (pairs_of f) high) (sym params_is)
          (chain_lower PairIn c.4.0 (place_of (item_of 0 form) + 1) (pairs_of three.1) high (omega (arith, name, a1, c42))
          (chain_higher PairIn c.4.0 (pairs_of three.1) c.4.1 high (omega (arith, c442, l0, l1, end)) (pairs_chain c.4.0 three.1 c.4.1 second c.4.3))),
    )

-- Definitions.

abbrev pub DefinitionIn : ℕ → Definition → ℕ → Type 0
DefinitionIn low d high = (low ≤ d.place) × (d.place < d.matched.place) × ((middle : ℕ) × Chain CaseIn (d.matched.place + 1) d.cases middle × Chain AtomIn middle (attributes_of d) high)

-- the items of a definition
record IsDefinition (items : List Sexpr) : Type 0 where
  mark : Sexpr
  matching : Sexpr
  key : Sexpr
  names : Sexpr
  other_key : Sexpr
  other_names : Sexpr
  is : items ≡ mark ∷ matching ∷ key ∷ names ∷ other_key ∷ other_names ∷ []

both_right : (a b : Bool) → (a && b) ≡ true → b ≡ true
both_right true b h = h
both_right false b h = absurd (false_true h)

six_items : (items : List Sexpr) → are_of_definition items ≡ true → IsDefinition items
six_items [] fit = absurd (false_true fit)
six_items (mark ∷ []) fit = absurd (false_true fit)
six_items (mark ∷ matching ∷ attributes) fit = by attributes (both_right (may_be (codes "!") mark) (have_attributes attributes) fit)
  where
    by : (attributes : List Sexpr) → have_attributes attributes ≡ true → IsDefinition (mark ∷ matching ∷ attributes)
    by [] fit = absurd (false_true fit)
    by (a ∷ []) fit = absurd (false_true fit)
    by (a ∷ b ∷ []) fit = absurd (false_true fit)
    by (a ∷ b ∷ c ∷ []) fit = absurd (false_true fit)
    by (a ∷ b ∷ c ∷ d ∷ []) fit = record { mark = mark; matching = matching; key = a; names = b; other_key = c; other_names = d; is = refl }
    by (a ∷ b ∷ c ∷ d ∷ e ∷ more) fit = absurd (false_true fit)

three_of : (items : List Sexpr) → are_of_match items ≡ true → (a : Sexpr) × (b : Sexpr) × (c : Sexpr) × (items ≡ a ∷ b ∷ c ∷ [])
three_of [] fit = absurd (false_true fit)
three_of (a ∷ []) fit = absurd (false_true fit)
three_of (a ∷ b ∷ []) fit = absurd (false_true fit)
three_of (a ∷ b ∷ c ∷ []) fit = (a, b, c, refl)
three_of (a ∷ b ∷ c ∷ d ∷ items) fit = absurd (false_true fit)

-- `(match s (case ..))`
record MatchIn (low : ℕ) (form : Sexpr) (high : ℕ) : Type 0 where
  from : low < place_of (item_of 1 form)
  cases : Chain CaseIn (place_of (item_of 1 form) + 1) (map case_of (parts_of (item_of 2 form))) high

match_in : (low : ℕ) (form : Sexpr) (high : ℕ) → HasShape (One role.Match) form → Spans low form high → MatchIn low form high
match_in low form high shape h =
    let three = three_of (parts_of form) (passes_parts are_of_match (items_of form) (fit_of shape)) in
    let c = items_chain low form high (three.0 ∷ three.1 ∷ three.2 ∷ []) three.3 h in
    let node = span_place low form high h in
    let a = span_place c.0 three.0 c.1 c.3 in
    let b = span_place c.4.0 three.1 c.4.1 c.4.3 in
    let n0 = node.0 in let a0 = a.0 in let a1 = a.1 in let b0 = b.0 in let b1 = b.1 in let c2 = c.2 in let c42 = c.4.2 in let c442 = c.4.4.2 in let end = c.4.4.4 in
    let third : HasShape (Many role.Case) three.2 = shape_of_item (One role.Match) form (three.0 ∷ three.1 ∷ three.2 ∷ []) three.3 shape 2 three.2 refl in
    let matched : place_of (item_of 1 form) ≡ place_of three.1 = ap (λ ps. place_of (unwrap_or (slice_get ps 1) form)) three.3 in
    let cases_is : item_of 2 form ≡ three.2 = ap (λ ps. unwrap_or (slice_get ps 2) form) three.3 in
    let cases = chain_map (Such (HasShape (One role.Case))) CaseIn case_of case_in c.4.4.0 (parts_of three.2) c.4.4.1
    (such_chain (HasShape (One role.Case)) c.4.4.0 (parts_of three.2) c.4.4.1 (all_at (HasShape (One role.Case)) (parts_of three.2) (item_shape third)) (span_parts c.4.4.0 three.2 c.4.4.1 c.4.4.3)) in
    record {
      from = omega (arith, matched, n0, c2, a0, a1, c42, b0);
      cases = subst (λ (f : Sexpr). Chain CaseIn (place_of (item_of 1 form) + 1) (map case_of (parts_of f)) high) (sym cases_is)
          (chain_lower CaseIn c.4.4.0 (place_of (item_of 1 form) + 1) (map case_of (parts_of three.2)) high (omega (arith, matched, b1, c442))
          (chain_higher CaseIn c.4.4.0 (map case_of (parts_of three.2)) c.4.4.1 high end cases));
    }

attributes_by : (outputs_first : Bool) (form names other_names : Sexpr) → item_of 3 form ≡ names → item_of 5 form ≡ other_names →
    (if outputs_first then symbols_of (item_of (if outputs_first then 3 else 5) form) ++ symbols_of (item_of (if outputs_first then 5 else 3) form)
    else symbols_of (item_of (if outputs_first then 5 else 3) form) ++ symbols_of (item_of (if outputs_first then 3 else 5) form))
    ≡ symbols_of names ++ symbols_of other_names
attributes_by true form names other_names third fifth = ap₂ (λ a b. symbols_of a ++ symbols_of b) third fifth
attributes_by false form names other_names third fifth = ap₂ (λ a b. symbols_of a ++ symbols_of b) third fifth

pub definition_in : (low : ℕ) (form : Sexpr) (high : ℕ) → HasShape (One role.Definition) form → Spans low form high → DefinitionIn low (definition_of form) high
definition_in low form high shape h =
    let six = six_items (parts_of form) (passes_parts are_of_definition (items_of form) (fit_of shape)) in
    let c = items_chain low form high (six.mark ∷ six.matching ∷ six.key ∷ six.names ∷ six.other_key ∷ six.other_names ∷ []) six.is h in
    let node = span_place low form high h in
    let a = span_place c.0 six.mark c.1 c.3 in
    let k = span_place c.4.4.0 six.key c.4.4.1 c.4.4.3 in
    let o = span_place c.4.4.4.4.0 six.other_key c.4.4.4.4.1 c.4.4.4.4.3 in
    let n0 = node.0 in let a0 = a.0 in let a1 = a.1 in let k0 = k.0 in let k1 = k.1 in let o0 = o.0 in let o1 = o.1 in
    let c2 = c.2 in let c42 = c.4.2 in let c442 = c.4.4.2 in let c4442 = c.4.4.4.2 in let c44442 = c.4.4.4.4.2 in let c444442 = c.4.4.4.4.4.2 in let end = c.4.4.4.4.4.4 in
    let second : HasShape (One role.Match) six.matching =
    shape_of_item (One role.Definition) form (six.mark ∷ six.matching ∷ six.key ∷ six.names ∷ six.other_key ∷ six.other_names ∷ []) six.is shape 1 six.matching refl in
    let m = match_in c.4.0 six.matching c.4.1 second c.4.3 in
    let m0 = m.from in
    let match_is : item_of 1 form ≡ six.matching = ap (λ ps. unwrap_or (slice_get ps 1) form) six.is in
    let third : item_of 3 form ≡ six.names = ap (λ ps. unwrap_or (slice_get ps 3) form) six.is in
    let fifth : item_of 5 form ≡ six.other_names = ap (λ ps. unwrap_or (slice_get ps 5) form) six.is in
    let matched : place_of (item_of 1 (item_of 1 form)) ≡ place_of (item_of 1 six.matching) = ap (λ (f : Sexpr). place_of (item_of 1 f)) match_is in
    let names = atoms_chain c.4.4.4.0 (parts_of six.names) c.4.4.4.1 (span_parts c.4.4.4.0 six.names c.4.4.4.1 c.4.4.4.3) in
    let others = atoms_chain c.4.4.4.4.4.0 (parts_of six.other_names) c.4.4.4.4.4.1 (span_parts c.4.4.4.4.4.0 six.other_names c.4.4.4.4.4.1 c.4.4.4.4.4.3) in
    let all : Chain AtomIn c.4.1 (symbols_of six.names ++ symbols_of six.other_names) high =
    chain_joined AtomIn c.4.1 (symbols_of six.names) c.4.4.4.1 (symbols_of six.other_names) high
    (chain_lower AtomIn c.4.4.4.0 c.4.1 (symbols_of six.names) c.4.4.4.1 (omega (arith, c442, k0, k1, c4442)) names)
    (chain_lower AtomIn c.4.4.4.4.4.0 c.4.4.4.1 (symbols_of six.other_names) high (omega (arith, c44442, o0, o1, c444442))
    (chain_higher AtomIn c.4.4.4.4.4.0 (symbols_of six.other_names) c.4.4.4.4.4.1 high end others)) in (
      n0,
      omega (arith, matched, c2, a0, a1, c42, m0),
      (
        c.4.1,
        subst (λ (f : Sexpr). Chain CaseIn (place_of (item_of 1 f) + 1) (map case_of (parts_of (item_of 2 f))) c.4.1) (sym match_is) m.cases,
        subst (λ names. Chain AtomIn c.4.1 names high) (sym (attributes_by (has_outputs_first form) form six.names six.other_names third fifth)) all,
      ),
    )

-- Functions.

abbrev pub Declared : ℕ → Function → ℕ → Type 0
Declared low f high = DeclarationIn low f.declaration high

abbrev pub Defined : ℕ → Function → ℕ → Type 0
Defined low f high = DefinitionIn low f.definition high

pub declared_chain : (low : ℕ) (declarations definitions : List Sexpr) (high : ℕ) → Chain (Such (HasShape (One role.Declaration))) low declarations high → low ≤ high →
    Chain Declared low (functions_from declarations definitions) high
declared_chain low [] definitions high h within = within
declared_chain low (d ∷ ds) [] high h within = within
declared_chain low (d ∷ ds) (e ∷ es) high h within =
    (h.0, h.1, h.2, declaration_in h.0 d h.1 h.3.0 h.3.1, declared_chain h.1 ds es high h.4 (chain_bounds h.1 ds high h.4))
  where
    chain_bounds : (low : ℕ) (forms : List Sexpr) (high : ℕ) → Chain (Such (HasShape (One role.Declaration))) low forms high → low ≤ high
    chain_bounds low [] high h = h
    chain_bounds low (f ∷ fs) high h =
        let here = h.2 in let most = bounds h.0 (places_in f) h.1 h.3.1 in let more = chain_bounds h.1 fs high h.4 in
        omega (arith, here, most, more)

pub defined_chain : (low : ℕ) (declarations definitions : List Sexpr) (high : ℕ) → Chain (Such (HasShape (One role.Definition))) low definitions high → low ≤ high →
    Chain Defined low (functions_from declarations definitions) high
defined_chain low [] definitions high h within = within
defined_chain low (d ∷ ds) [] high h within = within
defined_chain low (d ∷ ds) (e ∷ es) high h within =
    (h.0, h.1, h.2, definition_in h.0 e h.1 h.3.0 h.3.1, defined_chain h.1 ds es high h.4 (chain_bounds h.1 es high h.4))
  where
    chain_bounds : (low : ℕ) (forms : List Sexpr) (high : ℕ) → Chain (Such (HasShape (One role.Definition))) low forms high → low ≤ high
    chain_bounds low [] high h = h
    chain_bounds low (f ∷ fs) high h =
        let here = h.2 in let most = bounds h.0 (places_in f) h.1 h.3.1 in let more = chain_bounds h.1 fs high h.4 in
        omega (arith, here, most, more)

abbrev pub SiteIn : ℕ → Site → ℕ → Type 0
SiteIn low site high = CaseIn low site.case high

site_chain : (f : Function) (low : ℕ) (cases : List Case) (high : ℕ) → Chain CaseIn low cases high → Chain SiteIn low (map (λ case. record { function = f; case = case }) cases) high
site_chain f low [] high h = h
site_chain f low (c ∷ cs) high h = (h.0, h.1, h.2, h.3, site_chain f h.1 cs high h.4)

pub atoms_bound : (low : ℕ) (atoms : List Atom) (high : ℕ) → Chain AtomIn low atoms high → low ≤ high
atoms_bound low [] high h = h
atoms_bound low (a ∷ more) high h =
    let here = h.2 in let from = h.3.0 in let to = h.3.1 in let rest = atoms_bound h.1 more high h.4 in
    omega (arith, here, from, to, rest)

sites_in : (low : ℕ) (f : Function) (high : ℕ) → Defined low f high → Chain SiteIn low (map (λ case. record { function = f; case = case }) f.definition.cases) high
sites_in low f high h =
    let n = h.0 in let m = h.1 in
    let most = atoms_bound h.2.0 (attributes_of f.definition) high h.2.2 in
    site_chain f low f.definition.cases high
    (chain_higher CaseIn low f.definition.cases h.2.0 high most (chain_lower CaseIn (f.definition.matched.place + 1) low f.definition.cases h.2.0 (omega (arith, n, m)) h.2.1))

pub sites_chain : (low : ℕ) (functions : List Function) (high : ℕ) → Chain Defined low functions high → Chain SiteIn low (sites_of functions) high
sites_chain low functions high h = chain_flat Defined SiteIn (λ f. map (λ case. record { function = f; case = case }) f.definition.cases) sites_in low functions high h
