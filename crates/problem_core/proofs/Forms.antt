-- The texts of a problem's forms, part by part.
use Rattle.std.proofs.Common.{◌≡◌, ℕ, suc, List, [], ◌∷◌, ◌++◌, map, length, codes, decimal, refl, sym, ap, ap₂, ◌∙◌, arith, append_assoc, append-nil, rules}
use Rattle.std.specs.Prelude.{zero, pos, negsuc, true, false, filter, nat_eq, if◌then◌else◌}
use Rattle.std.specs.List.{flat_map}
use Rattle.std.proofs.lemmas.Grind.{flat_map-append}
use Rattle.sig_core.specs.declared.signature.Constructor.{Constructor}
use Rattle.sig_core.specs.declared.signature.Param.{Param}
use Rattle.sig_core.specs.declared.signature.Relation.{Relation}
use Rattle.sig_core.specs.declared.value.Value.{Value}
use Rattle.sig_core.specs.declared.value.Value.TheVariants as value
use Rattle.sig_core.specs.Lists.{numbers_from}
use Rattle.sig_core.specs.Names.{symbol_text}
use Rattle.sig_core.specs.Signatures.{Declarations, kinds_of}
use Rattle.sig_core.specs.Texts.{literal_text}
use Rattle.sexpr_core.specs.declared.form.Sexpr.{Sexpr, the_lemmas}
use Rattle.sexpr_core.specs.Texts.{form_text, joined, joined_from}
use Rattle.expr_core.specs.declared.expr.Expr.{Expr}
use Rattle.expr_core.specs.declared.expr.Expr as expr
use Rattle.expr_core.specs.declared.expr.Expr.TheVariants.{Slot, Apply}
use Rattle.expr_core.specs.declared.expr.Op.{Op}
use Rattle.expr_core.specs.declared.expr.Op.TheVariants.{Equal}
use Rattle.expr_core.specs.Names.{operator_name}
use Rattle.rule_core.specs.declared.rule.Call.{Call}
use Rattle.rule_core.specs.declared.rule.Rule.{Rule}
use Rattle.rule_core.specs.declared.rule.Var.{Var}
use Rattle.rule_core.specs.Instances.{args_of}
use Rattle.grammar_core.specs.declared.production.Nonterminal.{Nonterminal}
use Rattle.grammar_core.specs.declared.production.Production.{Production}
use Rattle.grammar_core.specs.Grammars.{nonterminal_at}
use Rattle.problem_core.specs.declared.parts.Constraint.{Constraint}
use Rattle.problem_core.specs.Problems.{Parts}
use Rattle.problem_core.specs.Soundness.{wanted_type}
use Rattle.problem_core.specs.Texts.{application_form, atom_form, atoms_form, call_form, case_form, constraint_form, constructor_form, constructor_name, decl_form, def_at, def_form, exists_form, expr_form, fill_form, forms_of, forms_of_grammar, functions_form, functions_forms, grammar_forms, group_form, info_line, keyword_form, line, list_form, literal_form, match_form, is_input, is_output, names_form, names_where, next_text, nonterminal_form, numeral_form, pair_form, param_form, pattern_form, problem_text, production_form, productions_form, relation_name, slot_name, symbol_form, synth_form, term_name, type_form, type_name, types_form, var_form, who_name, with_term}

pub symbol : (name : List ℕ) → form_text (symbol_form name) ≡ symbol_text name
symbol name = search (rules, the_lemmas)

pub numeral : (digits : List ℕ) → form_text (numeral_form digits) ≡ digits
numeral digits = search (rules, the_lemmas)

pub keyword : (name : List ℕ) → form_text (keyword_form name) ≡ 58 ∷ name
keyword name = search (rules, the_lemmas)

pub list_text : (items : List Sexpr) → form_text (list_form items) ≡ 40 ∷ (joined (map form_text items) ++ 41 ∷ [])
list_text items = search (rules, the_lemmas)

-- a list before further text
pub in_list : (items : List Sexpr) (rest : List ℕ) → form_text (list_form items) ++ rest ≡ 40 ∷ (joined (map form_text items) ++ 41 ∷ rest)
in_list items rest = ap (λ t. t ++ rest) (list_text items) ∙ ap (λ t. 40 ∷ t) (append_assoc (joined (map form_text items)) (41 ∷ []) rest)

-- the rest of a list after its first item
abbrev pub rest_text : List Sexpr → List ℕ
rest_text [] = 41 ∷ []
rest_text (form ∷ forms) = 32 ∷ (form_text form ++ rest_text forms)

later : (k : ℕ) (forms : List Sexpr) → joined_from (suc k) (map form_text forms) ++ 41 ∷ [] ≡ rest_text forms
later k [] = refl
later k (form ∷ forms) = append_assoc (32 ∷ form_text form) (joined_from (suc (suc k)) (map form_text forms)) (41 ∷ []) ∙ ap (λ t. 32 ∷ (form_text form ++ t)) (later (suc k) forms)

-- a list with a first item
pub headed : (head : Sexpr) (forms : List Sexpr) → form_text (list_form (head ∷ forms)) ≡ 40 ∷ (form_text head ++ rest_text forms)
headed head forms = list_text (head ∷ forms) ∙ ap (λ t. 40 ∷ t) (append_assoc (form_text head) (joined_from 1 (map form_text forms)) (41 ∷ []) ∙ ap (λ t. form_text head ++ t) (later 0 forms))

pub named : (name : List ℕ) (forms : List Sexpr) → form_text (list_form (symbol_form name ∷ forms)) ≡ 40 ∷ (symbol_text name ++ rest_text forms)
named name forms = headed (symbol_form name) forms ∙ ap (λ t. 40 ∷ (t ++ rest_text forms)) (symbol name)

-- the rest of a list whose items are made of others
pub rest_of : {X : Type 0} (f : X → Sexpr) (xs : List X) → rest_text (map f xs) ≡ flat_map (λ x. next_text (f x)) xs ++ 41 ∷ []
rest_of f [] = refl
rest_of f (x ∷ xs) = ap (λ t. 32 ∷ (form_text (f x) ++ t)) (rest_of f xs) ∙ sym (append_assoc (32 ∷ form_text (f x)) (flat_map (λ x. next_text (f x)) xs) (41 ∷ []))

pub rest_of_all : (forms : List Sexpr) → rest_text forms ≡ flat_map next_text forms ++ 41 ∷ []
rest_of_all [] = refl
rest_of_all (form ∷ forms) = ap (λ t. 32 ∷ (form_text form ++ t)) (rest_of_all forms) ∙ sym (append_assoc (32 ∷ form_text form) (flat_map next_text forms) (41 ∷ []))

pub pair_text : (name sort : List ℕ) → form_text (pair_form name sort) ≡ 40 ∷ (symbol_text name ++ 32 ∷ (symbol_text sort ++ 41 ∷ []))
pair_text name sort = named name (symbol_form sort ∷ []) ∙ ap (λ t. 40 ∷ (symbol_text name ++ 32 ∷ (t ++ 41 ∷ []))) (symbol sort)

-- a name that stands alone
pub alone : {X : Type 0} (name : List ℕ) (f : X → Sexpr) (xs : List X) → length xs ≡ 0 → form_text (application_form name (map f xs)) ≡ symbol_text name
alone name f [] e = symbol name
alone name f (x ∷ xs) e = absurd (omega (arith, e))

-- a name with arguments
pub applied : {X : Type 0} (name : List ℕ) (f : X → Sexpr) (xs : List X) → (length xs ≡ 0 → ⊥) → form_text (application_form name (map f xs)) ≡ 40 ∷ (symbol_text name ++ (flat_map (λ x. next_text (f x)) xs ++ 41 ∷ []))
applied name f [] e = absurd (e refl)
applied name f (x ∷ xs) e = named name (map f (x ∷ xs)) ∙ ap (λ t. 40 ∷ (symbol_text name ++ t)) (rest_of f (x ∷ xs))

-- a command of two lists
two_lists : (name : List ℕ) (first second : List Sexpr) → form_text (list_form (symbol_form name ∷ list_form first ∷ list_form second ∷ []))
    ≡ 40 ∷ (symbol_text name ++ (codes " (" ++ (joined (map form_text first) ++ (codes ") (" ++ (joined (map form_text second) ++ codes "))")))))
two_lists name first second = named name (list_form first ∷ list_form second ∷ []) ∙ ap (λ t. 40 ∷ (symbol_text name ++ 32 ∷ t))
    (in_list first (32 ∷ (form_text (list_form second) ++ 41 ∷ [])) ∙ ap (λ t. 40 ∷ (joined (map form_text first) ++ 41 ∷ 32 ∷ t)) (in_list second (41 ∷ [])))

-- Literals.

pub literal_form_text : (v : Value) → form_text (literal_form v) ≡ literal_text v
literal_form_text (value.Int (pos n)) = numeral (decimal n)
literal_form_text (value.Int (negsuc n)) = named (codes "-") (numeral_form (decimal (suc n)) ∷ []) ∙ ap (λ t. codes "(- " ++ (t ++ 41 ∷ [])) (numeral (decimal (suc n)))
literal_form_text (value.Bool true) = symbol (codes "true")
literal_form_text (value.Bool false) = symbol (codes "false")

-- Types.

pub type_text : (name : List ℕ) → form_text (type_form name) ≡ 40 ∷ (symbol_text name ++ codes " 0)")
type_text name = named name (numeral_form (codes "0") ∷ []) ∙ ap (λ t. 40 ∷ (symbol_text name ++ 32 ∷ (t ++ 41 ∷ []))) (numeral (codes "0"))

pub types_text : (sig : Declarations) → form_text (types_form sig)
    ≡ 40 ∷ (symbol_text (codes "declare-term-types") ++ (codes " (" ++ (joined (map form_text (map type_form sig.types)) ++ (codes ") (" ++ (joined (map form_text (map (group_form sig) (numbers_from 0 sig.types))) ++ codes "))")))))
unfolding types_form
types_text sig = two_lists (codes "declare-term-types") (map type_form sig.types) (map (group_form sig) (numbers_from 0 sig.types))

pub group_text : (sig : Declarations) (t : ℕ) → form_text (group_form sig t) ≡ 40 ∷ (joined (map form_text (map (constructor_form sig) (filter (λ c. nat_eq c.owner.0 t) sig.constructors))) ++ 41 ∷ [])
unfolding group_form
group_text sig t = list_text (map (constructor_form sig) (filter (λ c. nat_eq c.owner.0 t) sig.constructors))

pub constructor_alone : (sig : Declarations) (c : Constructor) → length c.args ≡ 0 → form_text (constructor_form sig c) ≡ symbol_text c.name
unfolding constructor_form
constructor_alone sig c e = alone c.name (λ t. symbol_form (type_name sig t)) c.args e

pub constructor_applied : (sig : Declarations) (c : Constructor) → (length c.args ≡ 0 → ⊥) → form_text (constructor_form sig c) ≡ 40 ∷ (symbol_text c.name ++ (flat_map (λ t. next_text (symbol_form (type_name sig t))) c.args ++ 41 ∷ []))
unfolding constructor_form
constructor_applied sig c e = applied c.name (λ t. symbol_form (type_name sig t)) c.args e

-- Rules.

pub functions_text : (sig : Declarations) (rules : List Rule) → form_text (functions_form sig rules)
    ≡ 40 ∷ (symbol_text (codes "define-funs-rec") ++ (codes " (" ++ (joined (map form_text (map (decl_form sig) sig.relations)) ++ (codes ") (" ++ (joined (map form_text (map (def_at sig rules) (numbers_from 0 sig.relations))) ++ codes "))")))))
unfolding functions_form
functions_text sig rules = two_lists (codes "define-funs-rec") (map (decl_form sig) sig.relations) (map (def_at sig rules) (numbers_from 0 sig.relations))

pub decl_text : (sig : Declarations) (r : Relation) → form_text (decl_form sig r)
    ≡ 40 ∷ (symbol_text r.name ++ (codes " (" ++ (joined (map form_text (map (param_form sig) r.params)) ++ 41 ∷ 32 ∷ (symbol_text (codes "Bool") ++ 41 ∷ []))))
unfolding decl_form
decl_text sig r = named r.name (list_form (map (param_form sig) r.params) ∷ symbol_form (codes "Bool") ∷ []) ∙ ap (λ t. 40 ∷ (symbol_text r.name ++ 32 ∷ t))
    (in_list (map (param_form sig) r.params) (32 ∷ (form_text (symbol_form (codes "Bool")) ++ 41 ∷ [])) ∙ ap (λ t. 40 ∷ (joined (map form_text (map (param_form sig) r.params)) ++ 41 ∷ 32 ∷ (t ++ 41 ∷ []))) (symbol (codes "Bool")))

pub match_text : (sig : Declarations) (params : List Param) (rules : List Rule) → form_text (match_form sig params rules)
    ≡ 40 ∷ (symbol_text (codes "match") ++ 32 ∷ (symbol_text (term_name params) ++ (codes " (" ++ (joined (map form_text (map (case_form sig) rules)) ++ codes "))"))))
unfolding match_form
match_text sig params rules = named (codes "match") (symbol_form (term_name params) ∷ list_form (map (case_form sig) rules) ∷ []) ∙ ap (λ t. 40 ∷ (symbol_text (codes "match") ++ 32 ∷ (t ++ rest_text (list_form (map (case_form sig) rules) ∷ [])))) (symbol (term_name params))
    ∙ ap (λ t. 40 ∷ (symbol_text (codes "match") ++ 32 ∷ (symbol_text (term_name params) ++ 32 ∷ t))) (in_list (map (case_form sig) rules) (41 ∷ []))

pub names_text : (names : List (List ℕ)) → form_text (names_form names) ≡ 40 ∷ (joined (map form_text (map symbol_form names)) ++ 41 ∷ [])
names_text names = list_text (map symbol_form names)

pub def_text : (sig : Declarations) (params : List Param) (rules : List Rule) → form_text (def_form sig params rules)
    ≡ 40 ∷ (symbol_text (codes "!") ++ 32 ∷ (form_text (match_form sig params rules) ++ (codes " :input " ++ (form_text (names_form (names_where is_input params)) ++ (codes " :output " ++ (form_text (names_form (names_where is_output params)) ++ 41 ∷ []))))))
unfolding def_form
def_text sig params rules =
    let inputs = names_form (names_where is_input params) in
    let outputs = names_form (names_where is_output params) in
    named (codes "!") (match_form sig params rules ∷ keyword_form (codes "input") ∷ inputs ∷ keyword_form (codes "output") ∷ outputs ∷ [])
    ∙ ap (λ t. 40 ∷ (symbol_text (codes "!") ++ 32 ∷ (form_text (match_form sig params rules) ++ 32 ∷ (t ++ rest_text (inputs ∷ keyword_form (codes "output") ∷ outputs ∷ []))))) (keyword (codes "input"))
    ∙ ap (λ t. 40 ∷ (symbol_text (codes "!") ++ 32 ∷ (form_text (match_form sig params rules) ++ (codes " :input " ++ (form_text inputs ++ 32 ∷ (t ++ rest_text (outputs ∷ []))))))) (keyword (codes "output"))

pub case_text : (sig : Declarations) (rule : Rule) → form_text (case_form sig rule) ≡ 40 ∷ (form_text (pattern_form sig rule) ++ 32 ∷ (form_text (exists_form rule.more (atoms_form sig rule)) ++ 41 ∷ []))
unfolding case_form
case_text sig rule = headed (pattern_form sig rule) (exists_form rule.more (atoms_form sig rule) ∷ [])

pub pattern_alone : (sig : Declarations) (rule : Rule) → length rule.kid_names ≡ 0 → form_text (pattern_form sig rule) ≡ symbol_text (constructor_name sig rule.con)
unfolding pattern_form
pattern_alone sig rule e = alone (constructor_name sig rule.con) symbol_form rule.kid_names e

pub pattern_applied : (sig : Declarations) (rule : Rule) → (length rule.kid_names ≡ 0 → ⊥) → form_text (pattern_form sig rule)
    ≡ 40 ∷ (symbol_text (constructor_name sig rule.con) ++ (flat_map (λ name. next_text (symbol_form name)) rule.kid_names ++ 41 ∷ []))
unfolding pattern_form
pattern_applied sig rule e = applied (constructor_name sig rule.con) symbol_form rule.kid_names e

pub no_exists : (vars : List Var) (body : Sexpr) → length vars ≡ 0 → form_text (exists_form vars body) ≡ form_text body
unfolding exists_form
no_exists [] body e = refl
no_exists (v ∷ vs) body e = absurd (omega (arith, e))

pub exists_text : (vars : List Var) (body : Sexpr) → (length vars ≡ 0 → ⊥) → form_text (exists_form vars body)
    ≡ 40 ∷ (symbol_text (codes "exists") ++ (codes " (" ++ (joined (map form_text (map var_form vars)) ++ (codes ") " ++ (form_text body ++ 41 ∷ [])))))
unfolding exists_form
exists_text [] body e = absurd (e refl)
exists_text (v ∷ vs) body e = named (codes "exists") (list_form (map var_form (v ∷ vs)) ∷ body ∷ []) ∙ ap (λ t. 40 ∷ (symbol_text (codes "exists") ++ 32 ∷ t)) (in_list (map var_form (v ∷ vs)) (32 ∷ (form_text body ++ 41 ∷ [])))

-- Expressions.

slot_form : (sig : Declarations) (rule : Rule) (i : ℕ) → expr_form sig rule (Slot i) ≡ symbol_form (slot_name sig rule i)
slot_form sig rule i = search (rules, expr.the_lemmas)

operation_form : (sig : Declarations) (rule : Rule) (op : Op) (kids : List Expr) → expr_form sig rule (Apply op kids) ≡ list_form (symbol_form (operator_name op) ∷ map (expr_form sig rule) kids)
operation_form sig rule op kids = search (rules, expr.the_lemmas)

pub slot_text : (sig : Declarations) (rule : Rule) (i : ℕ) → form_text (expr_form sig rule (Slot i)) ≡ symbol_text (slot_name sig rule i)
slot_text sig rule i = ap form_text (slot_form sig rule i) ∙ symbol (slot_name sig rule i)

pub operation_text : (sig : Declarations) (rule : Rule) (op : Op) (kids : List Expr) → form_text (expr_form sig rule (Apply op kids))
    ≡ 40 ∷ (symbol_text (operator_name op) ++ (flat_map (λ e. next_text (expr_form sig rule e)) kids ++ 41 ∷ []))
operation_text sig rule op kids = ap form_text (operation_form sig rule op kids)
    ∙ named (operator_name op) (map (expr_form sig rule) kids) ∙ ap (λ t. 40 ∷ (symbol_text (operator_name op) ++ t)) (rest_of (expr_form sig rule) kids)

-- Atoms.

pub atoms_text : (sig : Declarations) (rule : Rule) → form_text (atoms_form sig rule) ≡ 40 ∷ (symbol_text (codes "and") ++ (flat_map (λ atom. next_text (atom_form sig rule atom)) rule.atoms ++ 41 ∷ []))
unfolding atoms_form
atoms_text sig rule = named (codes "and") (map (atom_form sig rule) rule.atoms) ∙ ap (λ t. 40 ∷ (symbol_text (codes "and") ++ t)) (rest_of (atom_form sig rule) rule.atoms)

pub fill_text : (sig : Declarations) (rule : Rule) (slot : ℕ) (e : Expr) → form_text (fill_form sig rule slot e)
    ≡ 40 ∷ (symbol_text (operator_name Equal) ++ 32 ∷ (symbol_text (slot_name sig rule slot) ++ 32 ∷ (form_text (expr_form sig rule e) ++ 41 ∷ [])))
unfolding fill_form
fill_text sig rule slot e = named (operator_name Equal) (symbol_form (slot_name sig rule slot) ∷ expr_form sig rule e ∷ [])
    ∙ ap (λ t. 40 ∷ (symbol_text (operator_name Equal) ++ 32 ∷ (t ++ 32 ∷ (form_text (expr_form sig rule e) ++ 41 ∷ [])))) (symbol (slot_name sig rule slot))

pub call_text : (sig : Declarations) (rule : Rule) (call : Call) → form_text (call_form sig rule call)
    ≡ 40 ∷ (symbol_text (relation_name sig call.relation) ++ (flat_map next_text (with_term (kinds_of sig call.relation) (symbol_form (who_name sig rule call.who)) (map (expr_form sig rule) (args_of sig call))) ++ 41 ∷ []))
unfolding call_form
call_text sig rule call =
    let args = with_term (kinds_of sig call.relation) (symbol_form (who_name sig rule call.who)) (map (expr_form sig rule) (args_of sig call)) in
    named (relation_name sig call.relation) args ∙ ap (λ t. 40 ∷ (symbol_text (relation_name sig call.relation) ++ t)) (rest_of_all args)

-- Grammars.

pub synth_text : (sig : Declarations) (grammar : List Nonterminal) (wanted : List ℕ) → form_text (synth_form sig grammar wanted)
    ≡ 40 ∷ (symbol_text (codes "synth-fun") ++ 32 ∷ (symbol_text wanted ++ (codes " () " ++ (symbol_text (type_name sig (wanted_type grammar)) ++ (flat_map next_text (forms_of_grammar sig grammar) ++ 41 ∷ [])))))
unfolding synth_form
synth_text sig grammar wanted =
    let type = type_name sig (wanted_type grammar) in
    let others = forms_of_grammar sig grammar in
    named (codes "synth-fun") (symbol_form wanted ∷ list_form [] ∷ symbol_form type ∷ others)
    ∙ ap (λ t. 40 ∷ (symbol_text (codes "synth-fun") ++ 32 ∷ (t ++ rest_text (list_form [] ∷ symbol_form type ∷ others)))) (symbol wanted)
    ∙ ap (λ t. 40 ∷ (symbol_text (codes "synth-fun") ++ 32 ∷ (symbol_text wanted ++ 32 ∷ t))) (in_list [] (rest_text (symbol_form type ∷ others)))
    ∙ ap (λ t. 40 ∷ (symbol_text (codes "synth-fun") ++ 32 ∷ (symbol_text wanted ++ (codes " () " ++ (t ++ rest_text others))))) (symbol type)
    ∙ ap (λ t. 40 ∷ (symbol_text (codes "synth-fun") ++ 32 ∷ (symbol_text wanted ++ (codes " () " ++ (symbol_text type ++ t))))) (rest_of_all others)

pub grammar_text : (sig : Declarations) (grammar : List Nonterminal) → flat_map next_text (grammar_forms sig grammar)
    ≡ codes " (" ++ (joined (map form_text (map (nonterminal_form sig) grammar)) ++ (codes ") (" ++ (joined (map form_text (map (productions_form sig grammar) grammar)) ++ 41 ∷ [])))
grammar_text sig grammar =
    ap (λ t. 32 ∷ t) (in_list (map (nonterminal_form sig) grammar) (32 ∷ (form_text (list_form (map (productions_form sig grammar) grammar)) ++ []))
    ∙ ap (λ t. 40 ∷ (joined (map form_text (map (nonterminal_form sig) grammar)) ++ 41 ∷ 32 ∷ t)) (in_list (map (productions_form sig grammar) grammar) []))

pub productions_text : (sig : Declarations) (grammar : List Nonterminal) (n : Nonterminal) → form_text (productions_form sig grammar n)
    ≡ 40 ∷ (symbol_text n.name ++ 32 ∷ (symbol_text (type_name sig n.owner) ++ (codes " (" ++ (joined (map form_text (map (production_form sig grammar) n.productions)) ++ codes "))"))))
unfolding productions_form
productions_text sig grammar n = named n.name (symbol_form (type_name sig n.owner) ∷ list_form (map (production_form sig grammar) n.productions) ∷ [])
    ∙ ap (λ t. 40 ∷ (symbol_text n.name ++ 32 ∷ (t ++ rest_text (list_form (map (production_form sig grammar) n.productions) ∷ [])))) (symbol (type_name sig n.owner))
    ∙ ap (λ t. 40 ∷ (symbol_text n.name ++ 32 ∷ (symbol_text (type_name sig n.owner) ++ 32 ∷ t))) (in_list (map (production_form sig grammar) n.productions) (41 ∷ []))

pub production_alone : (sig : Declarations) (grammar : List Nonterminal) (p : Production) → length p.args ≡ 0 → form_text (production_form sig grammar p) ≡ symbol_text (constructor_name sig p.con)
unfolding production_form
production_alone sig grammar p e = alone (constructor_name sig p.con) (λ n. symbol_form (nonterminal_at grammar n).name) p.args e

pub production_applied : (sig : Declarations) (grammar : List Nonterminal) (p : Production) → (length p.args ≡ 0 → ⊥) → form_text (production_form sig grammar p)
    ≡ 40 ∷ (symbol_text (constructor_name sig p.con) ++ (flat_map (λ n. next_text (symbol_form (nonterminal_at grammar n).name)) p.args ++ 41 ∷ []))
unfolding production_form
production_applied sig grammar p e = applied (constructor_name sig p.con) (λ n. symbol_form (nonterminal_at grammar n).name) p.args e

-- Examples.

pub constraint_text : (sig : Declarations) (wanted : List ℕ) (c : Constraint) → form_text (constraint_form sig wanted c)
    ≡ 40 ∷ (symbol_text (codes "constraint") ++ (codes " (" ++ (symbol_text (relation_name sig c.relation) ++ (flat_map next_text (with_term (kinds_of sig c.relation) (symbol_form wanted) (map literal_form c.args)) ++ codes "))"))))
unfolding constraint_form
constraint_text sig wanted c =
    let args = with_term (kinds_of sig c.relation) (symbol_form wanted) (map literal_form c.args) in
    let fact = list_form (symbol_form (relation_name sig c.relation) ∷ args) in
    named (codes "constraint") (fact ∷ []) ∙ ap (λ t. 40 ∷ (symbol_text (codes "constraint") ++ 32 ∷ (t ++ 41 ∷ [])))
    (named (relation_name sig c.relation) args ∙ ap (λ t. 40 ∷ (symbol_text (relation_name sig c.relation) ++ t)) (rest_of_all args))
    ∙ ap (λ t. 40 ∷ (symbol_text (codes "constraint") ++ 32 ∷ 40 ∷ t)) (append_assoc (symbol_text (relation_name sig c.relation)) (flat_map next_text args ++ 41 ∷ []) (41 ∷ [])
    ∙ ap (λ t. symbol_text (relation_name sig c.relation) ++ t) (append_assoc (flat_map next_text args) (41 ∷ []) (41 ∷ [])))

-- The whole.

without : (n : ℕ) (form : Sexpr) → n ≡ 0 → flat_map line (if nat_eq n 0 then [] else form ∷ []) ≡ []
without zero form e = refl
without (suc n) form e = absurd (omega arith)

not-zero : (n : ℕ) → nat_eq (suc n) 0 ≡ false
not-zero n = search (rules)

present : (n : ℕ) (form : Sexpr) → (n ≡ 0 → ⊥) → flat_map line (if nat_eq n 0 then [] else form ∷ []) ≡ line form
present zero form e = absurd (e refl)
present (suc n) form e = ap (flat_map line) (ap (λ b. if b then [] else form ∷ []) (not-zero n)) ∙ append-nil (line form)

pub no_functions_lines : (sig : Declarations) (rules : List Rule) → length sig.relations ≡ 0 → flat_map line (functions_forms sig rules) ≡ []
no_functions_lines sig rules e = without (length sig.relations) (functions_form sig rules) e

pub functions_lines : (sig : Declarations) (rules : List Rule) → (length sig.relations ≡ 0 → ⊥) → flat_map line (functions_forms sig rules) ≡ line (functions_form sig rules)
functions_lines sig rules e = present (length sig.relations) (functions_form sig rules) e

end_line : line (list_form (symbol_form (codes "check-synth") ∷ [])) ≡ codes "(check-synth)" ++ 10 ∷ []
end_line = ap (λ t. t ++ 10 ∷ []) (named (codes "check-synth") [])

lines_of_map : {X : Type 0} (f : X → Sexpr) (xs : List X) → flat_map line (map f xs) ≡ flat_map (λ x. line (f x)) xs
lines_of_map f [] = refl
lines_of_map f (x ∷ xs) = ap (λ t. line (f x) ++ t) (lines_of_map f xs)

-- the parts of a problem, one after the other
pub whole_text : (p : Parts) (a b d e f : List ℕ) → a ≡ flat_map info_line p.infos
    → b ≡ a ++ (line (types_form p.signature) ++ flat_map line (functions_forms p.signature p.rules))
    → d ≡ b ++ line (synth_form p.signature p.grammar p.wanted)
    → e ≡ d ++ flat_map (λ c. line (constraint_form p.signature p.wanted c)) p.constraints
    → f ≡ e ++ (codes "(check-synth)" ++ 10 ∷ []) → f ≡ problem_text p
whole_text p a b d e f first second third fourth fifth =
    let types = line (types_form p.signature) in
    let functions = flat_map line (functions_forms p.signature p.rules) in
    let synth = line (synth_form p.signature p.grammar p.wanted) in
    let constraints = flat_map (λ c. line (constraint_form p.signature p.wanted c)) p.constraints in
    let end : List ℕ = codes "(check-synth)" ++ 10 ∷ [] in
    let last = list_form (symbol_form (codes "check-synth") ∷ []) ∷ [] in
    let more = map (constraint_form p.signature p.wanted) p.constraints in
    let ended : flat_map line last ≡ end = append-nil (line (list_form (symbol_form (codes "check-synth") ∷ []))) ∙ end_line in
    let before : flat_map line (functions_forms p.signature p.rules ++ synth_form p.signature p.grammar p.wanted ∷ more) ≡ functions ++ (synth ++ constraints) =
    flat_map-append line (functions_forms p.signature p.rules) (synth_form p.signature p.grammar p.wanted ∷ more) ∙ ap (λ t. functions ++ (synth ++ t)) (lines_of_map (constraint_form p.signature p.wanted) p.constraints) in
    let forms : flat_map line (forms_of p) ≡ (types ++ (functions ++ (synth ++ constraints))) ++ end =
    flat_map-append line (types_form p.signature ∷ (functions_forms p.signature p.rules ++ synth_form p.signature p.grammar p.wanted ∷ more)) last ∙ ap₂ (λ x y. x ++ y) (ap (λ t. types ++ t) before) ended in
    joined_parts (flat_map info_line p.infos) types functions synth constraints end a b d e f first second third fourth fifth ∙ ap (λ t. flat_map info_line p.infos ++ t) (sym forms) where
      joined_parts : (x0 x1 x2 x3 x4 x5 a b d e f : List ℕ) → a ≡ x0 → b ≡ a ++ (x1 ++ x2) → d ≡ b ++ x3 → e ≡ d ++ x4 → f ≡ e ++ x5
          → f ≡ x0 ++ ((x1 ++ (x2 ++ (x3 ++ x4))) ++ x5)
      joined_parts x0 x1 x2 x3 x4 x5 a b d e f first second third fourth fifth =
          let whole : f ≡ x0 ++ (x1 ++ x2) ++ x3 ++ x4 ++ x5 = cc in
          whole ∙ simp append_assoc
