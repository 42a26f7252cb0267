-- The numbers of the nodes of a key.
use Rattle.std.proofs.Common.{◌≡◌, ℕ, Option, Some, None, MatchOption, true, nat_eq, if◌then◌else◌, List, [], ◌∷◌, ◌++◌, length, get_or, All, Contains, sym, ap, ap₂, subst, ◌∙◌, arith, eq-eqb}
use Rattle.std.proofs.lemmas.List.{get_or_default, length_push}
use Rattle.indexmap.specs.IndexMap.{IndexMap}
use Rattle.sig_core.specs.declared.ids.ConId.{ConId}
use Rattle.tables.specs.Tables.{Gains, front, list_at, places}
use Rattle.tables.proofs.Lists.{front-push}
use Rattle.tables.proofs.Places.{place_of, places-push}
use Rattle.term_core.specs.declared.ids.TermId.{TermId}
use Rattle.term_core.specs.declared.node.Node.{Node}
use Rattle.term_core.specs.Nodes.{HasNode, IsBank}
use Rattle.term_core.specs.Keys.{HasNodeAt, IsTabled, has_key, key_of}

-- the node with these parts has its number under their key
pub under_key : (con : ConId) (kids : List TermId) (nodes : List Node) (numbers : List ℕ) → numbers ≡ places (has_key (key_of con kids)) 0 nodes
    → All (λ k. HasNodeAt con kids nodes k → ⊥) numbers → All (λ n. HasNode con kids n → ⊥) nodes
under_key con kids nodes numbers are none k d within has =
    let x : Node = get_or nodes k d in
    let is : get_or nodes k x ≡ x = get_or_default nodes k x d within in
    let passes : has_key (key_of con kids) x ≡ true = eq-eqb (key_of x.con x.kids) (key_of con kids) (ap₂ key_of has.0 has.1) in
    let there : Contains numbers k = subst (λ ns. Contains ns k) (sym are) (place_of (has_key (key_of con kids)) 0 nodes k k x within is passes (omega arith)) in
    let at : HasNodeAt con kids nodes k = (within, λ e. subst (HasNode con kids) (get_or_default nodes k d e within) has) in
    subst (λ m. HasNodeAt con kids nodes m → ⊥) there.2 (none there.0 k there.1) at

-- a node goes last
pub keyed-push : {S : Type 0} (table table' : IndexMap ℕ (List ℕ) S) (nodes : List Node) (n : Node) → ((key : ℕ) → list_at nat_eq table key ≡ places (has_key key) 0 nodes)
    → Gains nat_eq table table' (key_of n.con n.kids) (length nodes) → (key : ℕ) → list_at nat_eq table' key ≡ places (has_key key) 0 (nodes ++ n ∷ [])
keyed-push table table' nodes n keyed gains key =
    gains key ∙ ap (λ ns. ns ++ (if has_key key n then length nodes ∷ [] else [])) (keyed key) ∙ sym (places-push (has_key key) nodes n)

-- the same, from what the calls say
pub tabled : {S : Type 0} (table table' : IndexMap ℕ (List ℕ) S) (nodes after : List Node) (con : ConId) (kids start own : List TermId) (size key number : ℕ)
    → ((k : ℕ) → list_at nat_eq table k ≡ places (has_key k) 0 nodes) → IsBank after → start ≡ [] → own ≡ start ++ kids → after ≡ nodes ++ record { con = con; kids = own; size = size } ∷ []
    → key ≡ key_of con kids → number ≡ length nodes → Gains nat_eq table table' key number → IsTabled table' after
tabled table table' nodes after con kids start own size key number keyed bank no_start is_own is is_key is_number gains =
    let n : Node = record { con = con; kids = own; size = size } in
    let kids_are : own ≡ kids = is_own ∙ ap (λ xs. xs ++ kids) no_start in
    let key_is : key ≡ key_of con own = is_key ∙ ap (key_of con) (sym kids_are) in
    let last : Gains nat_eq table table' (key_of con own) (length nodes) = subst (λ k. Gains nat_eq table table' k (length nodes)) key_is (subst (Gains nat_eq table table' key) is_number gains) in
    record {
      bank = bank;
      keyed = subst (λ ns. (k : ℕ) → list_at nat_eq table' k ≡ places (has_key k) 0 ns) (sym is) (keyed-push table table' nodes n keyed last);
    }

-- an item that went last and was taken away again
pub popped : {X : Type 0} (result : Option X) (old more new : List X) (x : X) → more ≡ old ++ x ∷ [] → MatchOption result ((more ≡ []) × (new ≡ [])) (λ last. more ≡ new ++ last ∷ []) → new ≡ old
popped None old more new x is gone = absurd (omega (arith, length_push old x, ap length is, ap length gone.0))
popped (Some last) old more new x is gone = sym (front-push new last) ∙ ap front (sym gone ∙ is) ∙ front-push old x
