-- What can be added one after the other: each item is accepted after those before it.
use Rattle.std.specs.Prelude.{◌≡◌, ◌<◌, ◌≤◌, ℕ, ◌+◌, None, List, [], ◌∷◌, map, length, true, nat_lt, All}
use Rattle.std.specs.List.{flat_map, enumerate_from}
use Rattle.sig_core.specs.declared.signature.Constructor.{Constructor}
use Rattle.sig_core.specs.declared.signature.Relation.{Relation}
use Rattle.sig_core.specs.Refusals.{constructor_refusal, relation_refusal, type_refusal, with_constructor, with_relation, with_type}
use Rattle.sig_core.specs.Signatures.{Declarations}
use Rattle.sig_core.specs.WellFormed.{IsDeclared, IsRelation}
use Rattle.sexpr_core.specs.declared.form.Sexpr.{Sexpr}
use Rattle.sexpr_core.specs.Access.{item_of, parts_of}
use Rattle.syntax_core.specs.Syntax.{atom_of, items_at, nonterminals_of, type_names}
use Rattle.grammar_core.specs.declared.ids.NtId.{NtId}
use Rattle.grammar_core.specs.declared.production.Nonterminal.{Nonterminal}
use Rattle.grammar_core.specs.declared.production.Production.{Production}
use Rattle.grammar_core.specs.Grammars.{IsKnown}
use Rattle.grammar_core.specs.Refusals.{nonterminal_refusal, production_refusal, with_nonterminal, with_production}
use Rattle.syntax_core.specs.declared.syntax.Pair.{Pair}
use Rattle.sort_core.specs.Relations.{type_named}
use Rattle.making_core.specs.Making.{constructors_of, production_of, with_types}
use Rattle.name_core.specs.Names.{names_in, texts}

-- types of these names
abbrev pub TypesFit : Declarations → List (List ℕ) → Type 0
TypesFit sig [] = Unit {0}
TypesFit sig (name ∷ names) = (type_refusal sig name ≡ None) × TypesFit (with_type sig name) names

-- the constructor is accepted, of declared types, and of none that is below that of one before it
pub record ConstructorFits (sig : Declarations) (con : Constructor) : Type 0 where
  pub accepted : constructor_refusal sig con.name con.args ≡ None
  pub owner : IsDeclared (length sig.types) con.owner
  pub args : All (IsDeclared (length sig.types)) con.args
  pub rising : All (λ c. c.owner.0 ≤ con.owner.0) sig.constructors

abbrev pub ConstructorsFit : Declarations → List Constructor → Type 0
ConstructorsFit sig [] = Unit {0}
ConstructorsFit sig (con ∷ cons) = ConstructorFits sig con × ConstructorsFit (with_constructor sig con) cons

pub record RelationFits (sig : Declarations) (relation : Relation) : Type 0 where
  pub accepted : relation_refusal sig relation ≡ None
  pub fine : IsRelation (length sig.types) relation

abbrev pub RelationsFit : Declarations → List Relation → Type 0
RelationsFit sig [] = Unit {0}
RelationsFit sig (relation ∷ relations) = RelationFits sig relation × RelationsFit (with_relation sig relation) relations

-- the types of a `declare-term-types`, and then their constructors, of which there are as many groups as types
pub record TermsFit (sig : Declarations) (form : Sexpr) : Type 0 where
  pub types : TypesFit sig (texts (type_names form))
  pub constructors : ConstructorsFit (with_types sig form) (flat_map (constructors_of (with_types sig form)) (enumerate_from (length sig.types) (items_at 2 form)))
  pub few : length sig.types + length (items_at 2 form) ≤ 256

-- Grammars.

abbrev pub with_nonterminals : Declarations → List Nonterminal → List Pair → List Nonterminal
with_nonterminals sig grammar [] = grammar
with_nonterminals sig grammar (pair ∷ pairs) = with_nonterminals sig (with_nonterminal grammar pair.name.bytes (type_named sig pair.sort.bytes)) pairs

abbrev pub NonterminalsFit : Declarations → List Nonterminal → List Pair → Type 0
NonterminalsFit sig grammar [] = Unit {0}
NonterminalsFit sig grammar (pair ∷ pairs) =
    (nonterminal_refusal grammar pair.name.bytes ≡ None) × NonterminalsFit sig (with_nonterminal grammar pair.name.bytes (type_named sig pair.sort.bytes)) pairs

-- the production is accepted, of a constructor and over nonterminals that stand
pub record ProductionFits (sig : Declarations) (grammar : List Nonterminal) (nt : NtId) (production : Production) : Type 0 where
  pub nonterminal : IsKnown grammar nt
  pub con : production.con.0 < length sig.constructors
  pub args : All (IsKnown grammar) production.args
  pub accepted : production_refusal grammar sig nt production.con production.args ≡ None

abbrev pub with_productions : List Nonterminal → NtId → List Production → List Nonterminal
with_productions grammar nt [] = grammar
with_productions grammar nt (p ∷ ps) = with_productions (with_production grammar nt p) nt ps

abbrev pub ProductionsFit : Declarations → List Nonterminal → NtId → List Production → Type 0
ProductionsFit sig grammar nt [] = Unit {0}
ProductionsFit sig grammar nt (p ∷ ps) = ProductionFits sig grammar nt p × ProductionsFit sig (with_production grammar nt p) nt ps

-- the productions of nonterminals, of which the first has this number
abbrev pub with_groups : List Nonterminal → ℕ → List (List Production) → List Nonterminal
with_groups grammar n [] = grammar
with_groups grammar n (ps ∷ groups) = with_groups (with_productions grammar (record { 0 = n }) ps) (n + 1) groups

abbrev pub GroupsFit : Declarations → List Nonterminal → ℕ → List (List Production) → Type 0
GroupsFit sig grammar n [] = Unit {0}
GroupsFit sig grammar n (ps ∷ groups) =
    ProductionsFit sig grammar (record { 0 = n }) ps × GroupsFit sig (with_productions grammar (record { 0 = n }) ps) (n + 1) groups

-- the productions of each group of a `synth-fun`
abbrev pub productions_in : Declarations → Sexpr → List (List Production)
productions_in sig form = map (λ group. map (production_of sig (names_in (nonterminals_of form))) (items_at 2 group)) (items_at 5 form)

-- the nonterminals of a `synth-fun`, and then the productions of as many groups
pub record GroupsOfFit (sig : Declarations) (form : Sexpr) : Type 0 where
  pub few : length (nonterminals_of form) ≤ 256
  pub as_many : length (items_at 5 form) ≡ length (nonterminals_of form)
  pub nonterminals : NonterminalsFit sig [] (nonterminals_of form)
  pub productions : GroupsFit sig (with_nonterminals sig [] (nonterminals_of form)) 0 (productions_in sig form)

-- the type of the terms that are wanted, and the grammar where the command has one
pub record WantedFits (sig : Declarations) (form : Sexpr) : Type 0 where
  pub type : IsDeclared (length sig.types) (type_named sig (atom_of (item_of 3 form)).bytes)
  pub groups : nat_lt 4 (length (parts_of form)) ≡ true → GroupsOfFit sig form
