-- Problems whose parts fit together, as those of a file that is accepted do.
use Rattle.std.specs.Prelude.{◌≡◌, ◌<◌, ◌≤◌, ℕ, ◌+◌, pos, Bool, true, false, not, ◌&&◌, ◌||◌, Some, None, option_map, List, [], ◌∷◌, ◌++◌, map, length, slice_get, codes, All}
use Rattle.std.specs.List.{list_all}
use Rattle.sig_core.specs.declared.ids.TypeId.{TypeId}
use Rattle.sig_core.specs.declared.value.Value.{Value}
use Rattle.sig_core.specs.declared.value.Value.TheVariants as value
use Rattle.sig_core.specs.Names.{AreDistinct, is_reserved, place_of, same_name}
use Rattle.sig_core.specs.Signatures.{Declarations, kinds_of, params_in, plain_sorts, term_type}
use Rattle.sig_core.specs.Values.{is_value, sort_of}
use Rattle.sig_core.specs.WellFormed.{IsDeclared, IsWellFormed, constructor_names, names_of_params, relation_names}
use Rattle.expr_core.specs.declared.expr.Expr.{Expr, out-Expr}
use Rattle.expr_core.specs.declared.expr.Expr.TheFolds.{fold-Expr}
use Rattle.expr_core.specs.declared.expr.Expr.TheOpen.{Expr-F}
use Rattle.expr_core.specs.declared.expr.Op.{Op}
use Rattle.expr_core.specs.declared.expr.Op.TheVariants.{And, Minus}
use Rattle.rule_core.specs.declared.rule.Atom.{Atom}
use Rattle.rule_core.specs.declared.rule.Atom.TheVariants as atom
use Rattle.rule_core.specs.declared.rule.Rule.{Rule}
use Rattle.rule_core.specs.Flow.{flow_fault}
use Rattle.rule_core.specs.Rulebooks.{IsRuleOf}
use Rattle.grammar_core.specs.declared.production.Nonterminal.{Nonterminal}
use Rattle.grammar_core.specs.Grammars.{names_of, nonterminal_at, start}
use Rattle.grammar_core.specs.Limits.{KeepsLimits}
use Rattle.grammar_core.specs.Refusals.{makes}
use Rattle.grammar_core.specs.WellFormed.{IsGrammar}
use Rattle.grammar_core.specs.Whole.{whole}
use Rattle.problem_core.specs.declared.parts.Constraint.{Constraint}
use Rattle.problem_core.specs.Problems.{Parts}

-- a declared name has at most 1,024 bytes
abbrev pub IsShort : List ℕ → Type 0
IsShort name = length name ≤ 1024

-- Expressions without a minus over a literal of 0 or more.

-- whether an expression is such a literal, and whether no minus in it stands over one
pub record Signs : Type 0 where
  pub is_natural : Bool
  pub is_clean : Bool

abbrev pub is_natural : Value → Bool
is_natural (value.Int (pos n)) = true
is_natural _ = false

-- the operator is a minus over a single operand that is such a literal
abbrev pub negates_natural : Op → List Signs → Bool
negates_natural Minus (kid ∷ []) = kid.is_natural
negates_natural op kids = false

abbrev pub signs_step : Expr-F Signs → Signs
signs_step (Expr-F.Slot i) = record { is_natural = false; is_clean = true }
signs_step (Expr-F.Lit v) = record { is_natural = is_natural v; is_clean = true }
signs_step (Expr-F.Apply op kids) = record { is_natural = false; is_clean = list_all (λ kid. kid.is_clean) kids && not (negates_natural op kids) }

-- no minus stands over a single operand that is a literal of 0 or more
abbrev pub is_clean : Expr → Bool
is_clean e = (fold-Expr Signs signs_step e).is_clean

abbrev pub is_conjunction_in : Expr-F Expr → Bool
is_conjunction_in (Expr-F.Apply And kids) = true
is_conjunction_in _ = false

-- the expression has `and` at its head
abbrev pub is_conjunction : Expr → Bool
is_conjunction e = is_conjunction_in (out-Expr e)

abbrev pub is_clean_atom : Atom → Bool
is_clean_atom (atom.Call call) = list_all is_clean call.inputs && list_all is_clean call.outputs
is_clean_atom (atom.Fill slot e) = is_clean e
is_clean_atom (atom.Test e) = is_clean e && not (is_conjunction e)

-- Rules.

-- the names of the relation's parameters, of the children and of the existentials
abbrev pub names_in : Declarations → Rule → List (List ℕ)
names_in sig rule = names_of_params (params_in (slice_get sig.relations rule.relation.0)) ++ rule.kid_names ++ map (λ v. v.name) rule.more

pub record IsSoundRule (sig : Declarations) (rule : Rule) : Type 0 where
  pub fits : IsRuleOf sig rule
  pub flows : flow_fault sig rule ≡ None
  pub children : option_map (λ c. length c.args) (slice_get sig.constructors rule.con.0) ≡ Some (length rule.kid_names)
  pub few_variables : length (params_in (slice_get sig.relations rule.relation.0)) + length rule.more ≤ 64
  pub distinct : AreDistinct (names_in sig rule)
  pub free : All (λ name. is_reserved name ≡ false) (names_in sig rule)
  pub short : All IsShort (names_in sig rule)
  pub clean : list_all is_clean_atom rule.atoms ≡ true

-- Names.

pub record HasShortNames (sig : Declarations) : Type 0 where
  pub types : All IsShort sig.types
  pub constructors : All IsShort (constructor_names sig.constructors)
  pub relations : All IsShort (relation_names sig.relations)
  pub params : All (λ r. All IsShort (names_of_params r.params)) sig.relations

-- the name is that of a sort
abbrev pub is_sort_name : List ℕ → Bool
is_sort_name name = same_name name (codes "Int") || same_name name (codes "Bool")

-- no type is named as a sort is, and no relation by a reserved word
pub record HasFreeNames (sig : Declarations) : Type 0 where
  pub types : All (λ name. is_sort_name name ≡ false) sig.types
  pub relations : All (λ name. is_reserved name ≡ false) (relation_names sig.relations)

-- Grammars.

-- the type of the wanted terms, which is that of the start
abbrev pub wanted_type : List Nonterminal → TypeId
wanted_type grammar = (nonterminal_at grammar start).owner

-- the nonterminal is of a declared type, which its productions make
pub record IsSoundNonterminal (sig : Declarations) (grammar : List Nonterminal) (n : Nonterminal) : Type 0 where
  pub owner : IsDeclared (length sig.types) n.owner
  pub makes : All (λ p. makes grammar n.owner p.args (slice_get sig.constructors p.con.0) ≡ true) n.productions

-- a grammar with a start; its nonterminals are named as no constructor is, unless it is the grammar of all terms
pub record IsSoundGrammar (sig : Declarations) (grammar : List Nonterminal) : Type 0 where
  pub fine : IsGrammar grammar
  pub limits : KeepsLimits grammar
  pub has_start : 0 < length grammar
  pub nonterminals : All (IsSoundNonterminal sig grammar) grammar
  pub short : All IsShort (names_of grammar)
  pub new : ¬ (grammar ≡ whole sig (wanted_type grammar)) → All (λ name. place_of (constructor_names sig.constructors) name ≡ None) (names_of grammar)

-- Examples.

-- an example of a relation over terms of the type, with a value of the right sort for each other parameter, no number out
-- of range
pub record IsSoundConstraint (sig : Declarations) (wanted : TypeId) (constraint : Constraint) : Type 0 where
  pub type : term_type (kinds_of sig constraint.relation) ≡ Some wanted
  pub sorted : map sort_of constraint.args ≡ plain_sorts (kinds_of sig constraint.relation)
  pub in_range : list_all is_value constraint.args ≡ true

-- the parts make a problem
pub record IsSound (problem : Parts) : Type 0 where
  pub signature : IsWellFormed problem.signature
  pub names : HasShortNames problem.signature
  pub free_names : HasFreeNames problem.signature
  pub few_rules : length problem.rules ≤ 16384
  pub rules : All (IsSoundRule problem.signature) problem.rules
  pub grammar : IsSoundGrammar problem.signature problem.grammar
  pub wanted : IsShort problem.wanted
  pub few_constraints : length problem.constraints ≤ 1024
  pub constraints : All (IsSoundConstraint problem.signature (wanted_type problem.grammar)) problem.constraints
