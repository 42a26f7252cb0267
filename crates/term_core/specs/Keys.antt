-- The table of a bank: under each key, the numbers of the nodes of that key.
use Rattle.std.specs.Prelude.{◌≡◌, ◌<◌, ◌+◌, ◌*◌, ◌%◌, ◌^◌, ℕ, Bool, nat_eq, List, [], ◌∷◌, length, slice_index_or}
use Rattle.indexmap.specs.IndexMap.{IndexMap}
use Rattle.tables.specs.Tables.{list_at, places}
use Rattle.sig_core.specs.declared.ids.ConId.{ConId}
use Rattle.term_core.specs.declared.ids.TermId.{TermId}
use Rattle.term_core.specs.declared.node.Node.{Node}
use Rattle.term_core.specs.Nodes.{HasNode, IsBank}

-- the key so far, and then the children's numbers
abbrev pub key_after : ℕ → List TermId → ℕ
key_after key [] = key
key_after key (kid ∷ kids) = key_after ((key * 0x9E37_79B9_7F4A_7C15 % 2 ^ 64 + kid.0) % 2 ^ 64) kids

-- the key of a constructor and children
abbrev pub key_of : ConId → List TermId → ℕ
key_of con kids = key_after con.0 kids

abbrev pub has_key : ℕ → Node → Bool
has_key key n = nat_eq (key_of n.con n.kids) key

-- the number is of a node of this constructor and these children
abbrev pub HasNodeAt : ConId → List TermId → List Node → ℕ → Type 0
HasNodeAt con kids nodes k = (k < length nodes) × ((d : Node) → HasNode con kids (slice_index_or nodes k d))

-- the table has the numbers of these nodes, which are a bank's
pub record IsTabled {S : Type 0} (table : IndexMap ℕ (List ℕ) S) (nodes : List Node) : Type 0 where
  pub bank : IsBank nodes
  pub keyed : (key : ℕ) → list_at nat_eq table key ≡ places (has_key key) 0 nodes
