-- Marks on the nonterminals that the start leads to.
use Rattle.std.specs.Prelude.{◌≡◌, ◌≤◌, ◌<◌, ◌^◌, ◌⊎◌, ℕ, true, false, Bool, cond, List, [], ◌∷◌, ◌++◌, length, replicate, count_by, slice_index_or, Contains}
use Rattle.grammar_core.specs.declared.ids.NtId.{NtId}
use Rattle.grammar_core.specs.declared.marks.Marks.{Marks}
use Rattle.grammar_core.specs.declared.production.Production.{Production}
use Rattle.grammar_core.specs.Grammars.{Nonterminal, Leads, Reaches, start}

abbrev pub IsMarked : List Bool → NtId → Type 0
IsMarked flags n = slice_index_or flags n.0 false ≡ true

-- what stands at this place of the queue
abbrev pub queued_at : Marks → ℕ → NtId
queued_at marks place = slice_index_or marks.queue place start

-- the queue begins with as many nonterminals as are marked, each of them marked, and has a place for each nonterminal
pub record AreMarks (marks : Marks) : Type 0 where
  pub size : length marks.flags < 2 ^ 16
  pub room : length marks.queue ≡ length marks.flags
  pub counted : marks.count ≡ count_by (λ flag. flag) marks.flags
  pub queued : (place : ℕ) → place < marks.count → IsMarked marks.flags (queued_at marks place)

-- the marks of no nonterminal
abbrev pub none : Marks
none = record { flags = []; queue = []; count = 0 }

-- the marks of one nonterminal more, which is marked where it is the start
abbrev pub with_place : Marks → Bool → Marks
with_place marks is_start = record { flags = marks.flags ++ is_start ∷ []; queue = marks.queue ++ start ∷ []; count = cond is_start 1 marks.count }

-- the marks of the start, and of n nonterminals more, none of them marked
abbrev pub start_and : ℕ → Marks
start_and n = record { flags = true ∷ replicate n false; queue = start ∷ replicate n start; count = 1 }

-- only what the start leads to is marked
abbrev pub MarksReached : List Nonterminal → List Bool → Type 0
MarksReached grammar flags = (n : NtId) → IsMarked flags n → Reaches grammar start n

-- what a marked nonterminal leads to is marked
abbrev pub IsClosed : List Nonterminal → List Bool → Type 0
IsClosed grammar flags = (n m : NtId) → IsMarked flags n → Leads grammar n m → IsMarked flags m

-- what was marked still is
abbrev pub KeepsMarks : List Bool → List Bool → Type 0
KeepsMarks old new = (n : NtId) → IsMarked old n → IsMarked new n

-- n is a child of one of the productions
abbrev pub HasChild : List Production → NtId → Type 0
HasChild productions n = (p : Production) × Contains productions p × Contains p.args n

-- n stands in the queue, at this place or later
pub record Waits (marks : Marks) (from : ℕ) (n : NtId) : Type 0 where
  pub place : ℕ
  pub after : from ≤ place
  pub before : place < marks.count
  pub is : queued_at marks place ≡ n

-- what a marked nonterminal leads to is marked, unless the nonterminal waits in the queue from this place on
abbrev pub IsClosedBefore : List Nonterminal → Marks → ℕ → Type 0
IsClosedBefore grammar marks from = (n m : NtId) → IsMarked marks.flags n → Leads grammar n m → IsMarked marks.flags m ⊎ Waits marks from n

-- what a marked nonterminal leads to is marked, but for these children of n
abbrev pub IsClosedBut : List Nonterminal → List Bool → NtId → List NtId → Type 0
IsClosedBut grammar flags n args = (k m : NtId) → IsMarked flags k → Leads grammar k m → IsMarked flags m ⊎ ((k ≡ n) × Contains args m)

-- some of these nonterminals were marked, and put last in the queue
pub record Grows (These : NtId → Type 0) (old new : Marks) : Type 0 where
  pub kept : KeepsMarks old.flags new.flags
  pub longer : old.count ≤ new.count
  pub same : (place : ℕ) → place < old.count → queued_at new place ≡ queued_at old place
  pub fresh : (n : NtId) → IsMarked new.flags n → IsMarked old.flags n ⊎ (These n × Waits new old.count n)
