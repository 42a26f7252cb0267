-- What a grammar refuses to add, and what stands after an item is added.
use Rattle.std.specs.Prelude.{ℕ, Bool, false, ◌&&◌, nat_eq, nat_lt, if◌then◌else◌, Option, Some, None, is_some, List, [], ◌∷◌, ◌++◌, length, slice_get, slice_set}
use lib.Pointwise.{pointwise}
use Rattle.sig_core.specs.Names.{place_of}
use Rattle.sig_core.specs.Signatures.{Declarations}
use Rattle.sig_core.specs.declared.ids.ConId.{ConId}
use Rattle.sig_core.specs.declared.ids.TypeId.{TypeId}
use Rattle.sig_core.specs.declared.signature.Constructor.{Constructor}
use Rattle.grammar_core.specs.declared.grammar.GrammarError.{GrammarError}
use Rattle.grammar_core.specs.declared.grammar.GrammarError.TheVariants.{Twice, WrongType, Limit}
use Rattle.grammar_core.specs.declared.ids.NtId.{NtId}
use Rattle.grammar_core.specs.declared.production.Production.{Production}
use Rattle.grammar_core.specs.Grammars.{Nonterminal, names_of, nonterminal_at, production_count}

-- the name stands already; or 256 nonterminals stand, or more
abbrev pub nonterminal_refusal : List Nonterminal → List ℕ → Option GrammarError
nonterminal_refusal grammar name =
    if is_some (place_of (names_of grammar) name) then Some Twice
    else if nat_lt (length grammar) 256 then None else Some (Limit 12)

abbrev pub same_type : TypeId → TypeId → Bool
same_type t u = nat_eq t.0 u.0

-- the constructor makes terms of this type, from children of these nonterminals' types
abbrev pub makes : List Nonterminal → TypeId → List NtId → Option Constructor → Bool
makes grammar owner args None = false
makes grammar owner args (Some c) = same_type c.owner owner && pointwise (λ t n. same_type t (nonterminal_at grammar n).owner) c.args args

-- the types don't fit; or 4,096 productions stand, or more
abbrev pub production_refusal : List Nonterminal → Declarations → NtId → ConId → List NtId → Option GrammarError
production_refusal grammar sig n con args =
    if makes grammar (nonterminal_at grammar n).owner args (slice_get sig.constructors con.0) then (if nat_lt (production_count grammar) 4096 then None else Some (Limit 13))
    else Some WrongType

abbrev pub with_nonterminal : List Nonterminal → List ℕ → TypeId → List Nonterminal
with_nonterminal grammar name owner = grammar ++ record { name = name; owner = owner; productions = [] } ∷ []

abbrev pub with_production : List Nonterminal → NtId → Production → List Nonterminal
with_production grammar n production =
    slice_set grammar n.0 (record (nonterminal_at grammar n) { productions = (nonterminal_at grammar n).productions ++ production ∷ [] })
