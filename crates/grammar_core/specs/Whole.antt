-- The grammar of all terms.
use Rattle.std.specs.Prelude.{ℕ, suc, ◌+◌, not, nat_eq, nat_lt, if◌then◌else◌, List, [], ◌∷◌, map, filter, slice_index_or}
use Rattle.sig_core.specs.Lists.{numbers_from}
use Rattle.sig_core.specs.Signatures.{Declarations}
use Rattle.sig_core.specs.declared.ids.TypeId.{TypeId}
use Rattle.sig_core.specs.declared.signature.Constructor.{Constructor}
use Rattle.grammar_core.specs.declared.ids.NtId.{NtId}
use Rattle.grammar_core.specs.declared.production.Production.{Production}
use Rattle.grammar_core.specs.Grammars.{Nonterminal}

-- the first type's nonterminal stands first, and the others' in order of the types
abbrev pub nonterminal_for : TypeId → TypeId → NtId
nonterminal_for first t = record { 0 = if nat_eq t.0 first.0 then 0 else (if nat_lt t.0 first.0 then t.0 + 1 else t.0) }

-- a production for each constructor of the type, of which the first has number k
abbrev pub productions_from : ℕ → TypeId → TypeId → List Constructor → List Production
productions_from k first t [] = []
productions_from k first t (c ∷ cs) =
    if nat_eq c.owner.0 t.0 then record { con = record { 0 = k }; args = map (nonterminal_for first) c.args } ∷ productions_from (suc k) first t cs
    else productions_from (suc k) first t cs

-- the first type, and then the others in order
abbrev pub types_in_order : Declarations → TypeId → List TypeId
types_in_order sig first = first ∷ map (λ t. record { 0 = t }) (filter (λ t. not (nat_eq t first.0)) (numbers_from 0 sig.types))

-- a type's nonterminal: it is named as the type, and has a production for each constructor of the type
abbrev pub nonterminal_over : Declarations → TypeId → List Constructor → TypeId → Nonterminal
nonterminal_over sig first constructors t = record { name = slice_index_or sig.types t.0 []; owner = t; productions = productions_from 0 first t constructors }

-- a nonterminal for each type, with productions for these constructors
abbrev pub whole_over : Declarations → TypeId → List Constructor → List Nonterminal
whole_over sig first constructors = map (nonterminal_over sig first constructors) (types_in_order sig first)

-- the grammar of all terms
abbrev pub whole : Declarations → TypeId → List Nonterminal
whole sig first = whole_over sig first sig.constructors
