-- The rules of a book, and what it asks of a rule.
use Rattle.std.specs.Prelude.{◌≡◌, ◌^◌, ◌<◌, ◌≤◌, ◌&&◌, nat_eq, Option, Some, List, filter, length, All}
use Rattle.sig_core.specs.declared.ids.ConId.{ConId}
use Rattle.sig_core.specs.declared.ids.RelId.{RelId}
use Rattle.sig_core.specs.Signatures.{Declarations, kinds_of, term_type, owner_of}
use Rattle.expr_core.specs.declared.expr.Expr.{Expr}
use Rattle.expr_core.specs.Expressions.{node_count}
use Rattle.rule_core.specs.declared.flow.AddError.{AddError}
use Rattle.rule_core.specs.declared.flow.AddError.TheVariants.{Flow, Memory}
use Rattle.rule_core.specs.declared.flow.FlowFault.{FlowFault}
use Rattle.rule_core.specs.declared.rule.Atom.{Atom}
use Rattle.rule_core.specs.declared.rule.Atom.TheVariants as atom
use Rattle.rule_core.specs.declared.rule.Rule.{Rule}
use Rattle.rule_core.specs.Instances.{slot_sorts}

-- the rules of a relation and a constructor, in order
abbrev pub rules_for : List Rule → RelId → ConId → List Rule
rules_for rules r c = filter (λ rule. nat_eq rule.relation.0 r.0 && nat_eq rule.con.0 c.0) rules

-- the rules of a relation, in order
abbrev pub rules_of : List Rule → RelId → List Rule
rules_of rules r = filter (λ rule. nat_eq rule.relation.0 r.0) rules

-- the expression has fewer than 2 ^ 32 nodes
abbrev pub IsSmall : Expr → Type 0
IsSmall e = node_count e < 2 ^ 32

abbrev pub HasSmallParts : Atom → Type 0
HasSmallParts (atom.Call call) = All IsSmall call.inputs × All IsSmall call.outputs
HasSmallParts (atom.Fill slot e) = IsSmall e
HasSmallParts (atom.Test e) = IsSmall e

-- a rule of the signature's, whose constructor makes terms of the relation's type, and which is not too large
pub record IsRuleOf (sig : Declarations) (rule : Rule) : Type 0 where
  pub relation : rule.relation.0 < length sig.relations
  pub con : rule.con.0 < length sig.constructors
  pub same_type : term_type (kinds_of sig rule.relation) ≡ owner_of sig rule.con
  pub few_slots : length (slot_sorts sig rule) ≤ 64
  pub few_atoms : length rule.atoms < 2 ^ 32
  pub small : All HasSmallParts rule.atoms

-- a rule is refused for its fault in data flow, or for want of memory
abbrev pub IsDue : Option FlowFault → AddError → Type 0
IsDue due (Flow fault) = due ≡ Some fault
IsDue due Memory = Unit {0}
