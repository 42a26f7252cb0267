-- A language of sums, its rules, and facts over it.
use Rattle.std.specs.Prelude.{ℕ, pos, List, [], ◌∷◌, codes}
use Rattle.sig_core.specs.declared.value.Value.{Value}
use Rattle.sig_core.specs.declared.value.Value.TheVariants as value
use Rattle.sig_core.specs.declared.value.Sort.TheVariants as sort
use Rattle.sig_core.specs.declared.ids.TypeId.{TypeId}
use Rattle.sig_core.specs.declared.ids.ConId.{ConId}
use Rattle.sig_core.specs.declared.ids.RelId.{RelId}
use Rattle.sig_core.specs.declared.signature.Kind.TheVariants as kind
use Rattle.expr_core.specs.declared.expr.Op.TheVariants as op
use Rattle.expr_core.specs.declared.expr.Expr.TheVariants.{Slot, Lit, Apply}
use Rattle.term_core.specs.declared.tree.Tree.{Tree}
use Rattle.rule_core.specs.declared.rule.Who.TheVariants.{Child}
use Rattle.rule_core.specs.declared.rule.Call.{Call}
use Rattle.rule_core.specs.declared.rule.Atom.TheVariants as atom
use Rattle.rule_core.specs.declared.rule.Rule.{Rule}
use Rattle.term_core.specs.Terms.{node}
use Rattle.sig_core.specs.Signatures.{Declarations}
use Rattle.rule_core.specs.Instances.{Fact}

abbrev pub expression : TypeId
expression = record { 0 = 0 }

abbrev pub variable : ConId
variable = record { 0 = 0 }

abbrev pub plus : ConId
plus = record { 0 = 1 }

abbrev pub coin : ConId
coin = record { 0 = 2 }

abbrev pub gives : RelId
gives = record { 0 = 0 }

-- gives (t, in x, out y), where t is x, t + t or a coin
abbrev pub sums : Declarations
sums = record {
  types = codes "E" ∷ [];
  constructors = record { name = codes "x"; owner = expression; args = [] }
      ∷ record { name = codes "plus"; owner = expression; args = expression ∷ expression ∷ [] }
      ∷ record { name = codes "coin"; owner = expression; args = [] } ∷ [];
  relations = record {
    name = codes "gives";
    params = record { name = codes "t"; kind = kind.Term expression } ∷ record { name = codes "x"; kind = kind.Input sort.Int } ∷ record { name = codes "y"; kind = kind.Output sort.Int } ∷ [];
  } ∷ [];
}

-- x gives x
abbrev pub variable_rule : Rule
variable_rule = record { relation = gives; con = variable; kid_names = []; more = []; atoms = atom.Fill 1 (Slot 0) ∷ [] }

abbrev pub call_on : ℕ → ℕ → Call
call_on kid slot = record { relation = gives; who = Child kid; inputs = Slot 0 ∷ []; outputs = Slot slot ∷ [] }

-- a + b gives u + v, where a gives u and b gives v
abbrev pub plus_rule : Rule
plus_rule = record {
  relation = gives;
  con = plus;
  kid_names = codes "a" ∷ codes "b" ∷ [];
  more = record { name = codes "u"; sort = sort.Int } ∷ record { name = codes "v"; sort = sort.Int } ∷ [];
  atoms = atom.Call (call_on 0 2) ∷ atom.Call (call_on 1 3) ∷ atom.Fill 1 (Apply op.Add (Slot 2 ∷ Slot 3 ∷ [])) ∷ [];
}

-- a coin gives 0, and it gives 1
abbrev pub coin_rule : ℕ → Rule
coin_rule n = record { relation = gives; con = coin; kid_names = []; more = []; atoms = atom.Fill 1 (Lit (value.Int (pos n))) ∷ [] }

abbrev pub rules_of_sums : List Rule
rules_of_sums = variable_rule ∷ plus_rule ∷ coin_rule 0 ∷ coin_rule 1 ∷ []

abbrev pub just_x : Tree
just_x = node variable []

abbrev pub twice : Tree
twice = node plus (just_x ∷ just_x ∷ [])

abbrev pub thrice : Tree
thrice = node plus (twice ∷ just_x ∷ [])

abbrev pub a_coin : Tree
a_coin = node coin []

abbrev pub int : ℕ → Value
int n = value.Int (pos n)

-- the term at this input gives this output
abbrev pub maps_to : Tree → ℕ → ℕ → Fact
maps_to t x y = record { relation = gives; term = t; args = int x ∷ int y ∷ [] }
