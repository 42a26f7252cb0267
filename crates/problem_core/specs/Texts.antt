-- The canonical text of a problem: its commands as forms, each on a line of its own in canonical spelling. A form that is
-- made here has place 0, which plays no part in its spelling.
use Rattle.std.specs.Prelude.{ℕ, suc, pos, negsuc, Bool, true, false, ◌&&◌, nat_eq, if◌then◌else◌, Option, Some, None, List, [], ◌∷◌, ◌++◌, map, filter, slice_get, length, codes, decimal}
use Rattle.std.specs.List.{flat_map}
use Rattle.std.specs.Option.{unwrap_or}
use Rattle.std.specs.Cmp.Lexicographic.{pointwise}
use Rattle.sig_core.specs.declared.ids.ConId.{ConId}
use Rattle.sig_core.specs.declared.ids.RelId.{RelId}
use Rattle.sig_core.specs.declared.ids.TypeId.{TypeId}
use Rattle.sig_core.specs.declared.signature.Constructor.{Constructor}
use Rattle.sig_core.specs.declared.signature.Kind.{Kind}
use Rattle.sig_core.specs.declared.signature.Kind.TheVariants as kind
use Rattle.sig_core.specs.declared.signature.Param.{Param}
use Rattle.sig_core.specs.declared.signature.Relation.{Relation}
use Rattle.sig_core.specs.declared.value.Sort.{Sort}
use Rattle.sig_core.specs.declared.value.Sort.TheVariants as sort
use Rattle.sig_core.specs.declared.value.Value.{Value}
use Rattle.sig_core.specs.declared.value.Value.TheVariants as value
use Rattle.sig_core.specs.Lists.{numbers_from}
use Rattle.sig_core.specs.Names.{same_name}
use Rattle.sig_core.specs.Signatures.{Declarations, kinds_of, params_in}
use Rattle.sexpr_core.specs.declared.form.Sexpr as sexpr
use Rattle.sexpr_core.specs.declared.form.Sexpr.{Sexpr}
use Rattle.sexpr_core.specs.Texts.{form_text}
use Rattle.expr_core.specs.declared.expr.Expr.{Expr}
use Rattle.expr_core.specs.declared.expr.Expr.TheFolds.{fold-Expr}
use Rattle.expr_core.specs.declared.expr.Expr.TheOpen.{Expr-F}
use Rattle.expr_core.specs.declared.expr.Op.TheVariants.{Equal}
use Rattle.expr_core.specs.Names.{operator_name}
use Rattle.rule_core.specs.declared.rule.Atom.{Atom}
use Rattle.rule_core.specs.declared.rule.Atom.TheVariants as atom
use Rattle.rule_core.specs.declared.rule.Call.{Call}
use Rattle.rule_core.specs.declared.rule.Rule.{Rule}
use Rattle.rule_core.specs.declared.rule.Var.{Var}
use Rattle.rule_core.specs.declared.rule.Who.{Who}
use Rattle.rule_core.specs.declared.rule.Who.TheVariants.{Own, Child}
use Rattle.rule_core.specs.Instances.{args_of}
use Rattle.rule_core.specs.Rulebooks.{rules_of}
use Rattle.grammar_core.specs.declared.production.Nonterminal.{Nonterminal}
use Rattle.grammar_core.specs.declared.production.Production.{Production}
use Rattle.grammar_core.specs.Grammars.{nonterminal_at}
use Rattle.grammar_core.specs.Whole.{whole}
use Rattle.problem_core.specs.declared.parts.Constraint.{Constraint}
use Rattle.problem_core.specs.declared.parts.Info.{Info}
use Rattle.problem_core.specs.Problems.{Parts}
use Rattle.problem_core.specs.Soundness.{wanted_type}

-- Forms.

abbrev pub symbol_form : List ℕ → Sexpr
symbol_form name = sexpr.Symbol (record { place = 0; bytes = name })

abbrev pub numeral_form : List ℕ → Sexpr
numeral_form digits = sexpr.Numeral (record { place = 0; bytes = digits })

abbrev pub keyword_form : List ℕ → Sexpr
keyword_form name = sexpr.Keyword (record { place = 0; bytes = name })

abbrev pub list_form : List Sexpr → Sexpr
list_form items = sexpr.List (record { place = 0; items = items })

-- a space and the form, as it follows another one in a list
abbrev pub next_text : Sexpr → List ℕ
next_text form = 32 ∷ form_text form

-- a name with a sort or a type
abbrev pub pair_form : List ℕ → List ℕ → Sexpr
pair_form name sort = list_form (symbol_form name ∷ symbol_form sort ∷ [])

-- the bare name where there is no argument
abbrev pub application_form : List ℕ → List Sexpr → Sexpr
application_form name [] = symbol_form name
application_form name (arg ∷ args) = list_form (symbol_form name ∷ arg ∷ args)

-- a numeral, `(- n)` for a negative number, `true` or `false`
abbrev pub literal_form : Value → Sexpr
literal_form (value.Int (pos n)) = numeral_form (decimal n)
literal_form (value.Int (negsuc n)) = list_form (symbol_form (codes "-") ∷ numeral_form (decimal (suc n)) ∷ [])
literal_form (value.Bool true) = symbol_form (codes "true")
literal_form (value.Bool false) = symbol_form (codes "false")

-- Names.

abbrev pub sort_name : Sort → List ℕ
sort_name sort.Int = codes "Int"
sort_name sort.Bool = codes "Bool"

abbrev pub type_name : Declarations → TypeId → List ℕ
type_name sig t = unwrap_or (slice_get sig.types t.0) []

abbrev pub name_of_constructor : Option Constructor → List ℕ
name_of_constructor None = []
name_of_constructor (Some c) = c.name

abbrev pub constructor_name : Declarations → ConId → List ℕ
constructor_name sig con = name_of_constructor (slice_get sig.constructors con.0)

abbrev pub name_of_relation : Option Relation → List ℕ
name_of_relation None = []
name_of_relation (Some r) = r.name

abbrev pub relation_name : Declarations → RelId → List ℕ
relation_name sig r = name_of_relation (slice_get sig.relations r.0)

abbrev pub params_of : Declarations → RelId → List Param
params_of sig r = params_in (slice_get sig.relations r.0)

-- the sort or the type of a parameter
abbrev pub kind_name : Declarations → Kind → List ℕ
kind_name sig (kind.Term t) = type_name sig t
kind_name sig (kind.Input s) = sort_name s
kind_name sig (kind.Output s) = sort_name s

abbrev pub is_term : Kind → Bool
is_term (kind.Term t) = true
is_term _ = false

abbrev pub is_input : Kind → Bool
is_input (kind.Input s) = true
is_input _ = false

abbrev pub is_output : Kind → Bool
is_output (kind.Output s) = true
is_output _ = false

-- the names of the parameters whose kind passes the test
abbrev pub names_where : (Kind → Bool) → List Param → List (List ℕ)
names_where test [] = []
names_where test (p ∷ ps) = if test p.kind then p.name ∷ names_where test ps else names_where test ps

-- the name of the parameter that is a term
abbrev pub term_name : List Param → List ℕ
term_name [] = []
term_name (p ∷ ps) = if is_term p.kind then p.name else term_name ps

-- the names of a rule's slots: the parameters that are not terms, then the existentials
abbrev pub slot_names : List Param → List Var → List (List ℕ)
slot_names [] more = map (λ v. v.name) more
slot_names (p ∷ ps) more = if is_term p.kind then slot_names ps more else p.name ∷ slot_names ps more

-- Types and constructors.

abbrev pub type_form : List ℕ → Sexpr
type_form name = list_form (symbol_form name ∷ numeral_form (codes "0") ∷ [])

unfoldable pub constructor_form : Declarations → Constructor → Sexpr
constructor_form sig c = application_form c.name (map (λ t. symbol_form (type_name sig t)) c.args)

-- the constructors of a type, in order
unfoldable pub group_form : Declarations → ℕ → Sexpr
group_form sig t = list_form (map (constructor_form sig) (filter (λ c. nat_eq c.owner.0 t) sig.constructors))

unfoldable pub types_form : Declarations → Sexpr
types_form sig = list_form (symbol_form (codes "declare-term-types") ∷ list_form (map type_form sig.types) ∷ list_form (map (group_form sig) (numbers_from 0 sig.types)) ∷ [])

-- Relations.

abbrev pub param_form : Declarations → Param → Sexpr
param_form sig p = pair_form p.name (kind_name sig p.kind)

unfoldable pub decl_form : Declarations → Relation → Sexpr
decl_form sig r = list_form (symbol_form r.name ∷ list_form (map (param_form sig) r.params) ∷ symbol_form (codes "Bool") ∷ [])

-- one level, with the forms of the operands
abbrev pub expr_step : (ℕ → List ℕ) → Expr-F Sexpr → Sexpr
expr_step name (Expr-F.Slot i) = symbol_form (name i)
expr_step name (Expr-F.Lit v) = literal_form v
expr_step name (Expr-F.Apply op kids) = list_form (symbol_form (operator_name op) ∷ kids)

-- the name of a slot of the rule
abbrev pub slot_name : Declarations → Rule → ℕ → List ℕ
slot_name sig rule i = unwrap_or (slice_get (slot_names (params_of sig rule.relation) rule.more) i) []

-- an expression over the slots of the rule
abbrev pub expr_form : Declarations → Rule → Expr → Sexpr
expr_form sig rule = fold-Expr Sexpr (expr_step (slot_name sig rule))

-- the term's name, or that of its child
abbrev pub who_name : Declarations → Rule → Who → List ℕ
who_name sig rule Own = term_name (params_of sig rule.relation)
who_name sig rule (Child i) = unwrap_or (slice_get rule.kid_names i) []

-- the arguments in order of the parameters, with the term in its place among them
abbrev pub with_term : {X : Type 0} → List Kind → X → List X → List X
with_term (kind.Term t ∷ ks) term xs = term ∷ with_term ks term xs
with_term (kind.Input s ∷ ks) term (x ∷ xs) = x ∷ with_term ks term xs
with_term (kind.Output s ∷ ks) term (x ∷ xs) = x ∷ with_term ks term xs
with_term _ term xs = []

-- a relation on a term and these further arguments
abbrev pub fact_form : Declarations → RelId → List ℕ → List Sexpr → Sexpr
fact_form sig r term args = list_form (symbol_form (relation_name sig r) ∷ with_term (kinds_of sig r) (symbol_form term) args)

unfoldable pub call_form : Declarations → Rule → Call → Sexpr
call_form sig rule call = fact_form sig call.relation (who_name sig rule call.who) (map (expr_form sig rule) (args_of sig call))

-- the variable has the value of the expression
unfoldable pub fill_form : Declarations → Rule → ℕ → Expr → Sexpr
fill_form sig rule slot e = list_form (symbol_form (operator_name Equal) ∷ symbol_form (slot_name sig rule slot) ∷ expr_form sig rule e ∷ [])

abbrev pub atom_form : Declarations → Rule → Atom → Sexpr
atom_form sig rule (atom.Call call) = call_form sig rule call
atom_form sig rule (atom.Fill slot e) = fill_form sig rule slot e
atom_form sig rule (atom.Test e) = expr_form sig rule e

unfoldable pub pattern_form : Declarations → Rule → Sexpr
pattern_form sig rule = application_form (constructor_name sig rule.con) (map symbol_form rule.kid_names)

-- an `and`, whatever the number of atoms
unfoldable pub atoms_form : Declarations → Rule → Sexpr
atoms_form sig rule = list_form (symbol_form (codes "and") ∷ map (atom_form sig rule) rule.atoms)

abbrev pub var_form : Var → Sexpr
var_form v = pair_form v.name (sort_name v.sort)

-- the body under the existentials, where there are any
unfoldable pub exists_form : List Var → Sexpr → Sexpr
exists_form [] body = body
exists_form (v ∷ vs) body = list_form (symbol_form (codes "exists") ∷ list_form (map var_form (v ∷ vs)) ∷ body ∷ [])

unfoldable pub case_form : Declarations → Rule → Sexpr
case_form sig rule = list_form (pattern_form sig rule ∷ exists_form rule.more (atoms_form sig rule) ∷ [])

-- a `match` on the parameter that is a term, with a case for each of these rules
unfoldable pub match_form : Declarations → List Param → List Rule → Sexpr
match_form sig params rules = list_form (symbol_form (codes "match") ∷ symbol_form (term_name params) ∷ list_form (map (case_form sig) rules) ∷ [])

abbrev pub names_form : List (List ℕ) → Sexpr
names_form names = list_form (map symbol_form names)

unfoldable pub def_form : Declarations → List Param → List Rule → Sexpr
def_form sig params rules = list_form (symbol_form (codes "!") ∷ match_form sig params rules
    ∷ keyword_form (codes "input") ∷ names_form (names_where is_input params)
    ∷ keyword_form (codes "output") ∷ names_form (names_where is_output params) ∷ [])

-- the definition of the relation with this number
abbrev pub def_at : Declarations → List Rule → ℕ → Sexpr
def_at sig rules r = def_form sig (params_of sig (record { 0 = r })) (rules_of rules (record { 0 = r }))

unfoldable pub functions_form : Declarations → List Rule → Sexpr
functions_form sig rules = list_form (symbol_form (codes "define-funs-rec") ∷ list_form (map (decl_form sig) sig.relations) ∷ list_form (map (def_at sig rules) (numbers_from 0 sig.relations)) ∷ [])

-- no command where there is no relation
abbrev pub functions_forms : Declarations → List Rule → List Sexpr
functions_forms sig rules = if nat_eq (length sig.relations) 0 then [] else functions_form sig rules ∷ []

-- Grammars.

abbrev pub same_production : Production → Production → Bool
same_production p q = nat_eq p.con.0 q.con.0 && pointwise (λ m n. nat_eq m.0 n.0) p.args q.args

-- equal names, types and productions, in the same order
abbrev pub same_nonterminal : Nonterminal → Nonterminal → Bool
same_nonterminal m n = same_name m.name n.name && nat_eq m.owner.0 n.owner.0 && pointwise same_production m.productions n.productions

abbrev pub same_grammar : List Nonterminal → List Nonterminal → Bool
same_grammar grammar other = pointwise same_nonterminal grammar other

unfoldable pub production_form : Declarations → List Nonterminal → Production → Sexpr
production_form sig grammar p = application_form (constructor_name sig p.con) (map (λ n. symbol_form (nonterminal_at grammar n).name) p.args)

abbrev pub nonterminal_form : Declarations → Nonterminal → Sexpr
nonterminal_form sig n = pair_form n.name (type_name sig n.owner)

unfoldable pub productions_form : Declarations → List Nonterminal → Nonterminal → Sexpr
productions_form sig grammar n = list_form (symbol_form n.name ∷ symbol_form (type_name sig n.owner) ∷ list_form (map (production_form sig grammar) n.productions) ∷ [])

-- the nonterminals and the groups of their productions
abbrev pub grammar_forms : Declarations → List Nonterminal → List Sexpr
grammar_forms sig grammar = list_form (map (nonterminal_form sig) grammar) ∷ list_form (map (productions_form sig grammar) grammar) ∷ []

-- the grammar of all terms of the wanted type is left out
abbrev pub forms_of_grammar : Declarations → List Nonterminal → List Sexpr
forms_of_grammar sig grammar = if same_grammar grammar (whole sig (wanted_type grammar)) then [] else grammar_forms sig grammar

unfoldable pub synth_form : Declarations → List Nonterminal → List ℕ → Sexpr
synth_form sig grammar wanted = list_form (symbol_form (codes "synth-fun") ∷ symbol_form wanted ∷ list_form [] ∷ symbol_form (type_name sig (wanted_type grammar)) ∷ forms_of_grammar sig grammar)

-- Examples.

unfoldable pub constraint_form : Declarations → List ℕ → Constraint → Sexpr
constraint_form sig wanted c = list_form (symbol_form (codes "constraint") ∷ fact_form sig c.relation wanted (map literal_form c.args) ∷ [])

-- The whole.

-- the commands of the problem but for its infos
abbrev pub forms_of : Parts → List Sexpr
forms_of p = types_form p.signature ∷ functions_forms p.signature p.rules
    ++ synth_form p.signature p.grammar p.wanted ∷ map (constraint_form p.signature p.wanted) p.constraints
    ++ list_form (symbol_form (codes "check-synth") ∷ []) ∷ []

abbrev pub line : Sexpr → List ℕ
line form = form_text form ++ 10 ∷ []

-- a space and the value, where there is one
abbrev pub value_text : List ℕ → List ℕ
value_text [] = []
value_text (byte ∷ bytes) = 32 ∷ byte ∷ bytes

-- an info's value is kept in canonical spelling
abbrev pub info_line : Info → List ℕ
info_line info = codes "(set-info :" ++ info.key ++ value_text info.value ++ 41 ∷ 10 ∷ []

abbrev pub problem_text : Parts → List ℕ
problem_text p = flat_map info_line p.infos ++ flat_map line (forms_of p)
