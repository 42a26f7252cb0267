-- The terms of calls, as ids of a bank.
use Rattle.std.specs.Prelude.{◌≡◌, Option, Some, None, List, MatchOption}
use Rattle.term_core.specs.declared.ids.TermId.{TermId}
use Rattle.term_core.specs.declared.tree.Tree.{Tree}
use Rattle.term_core.specs.Banks.{IsLive, tree_of}

-- a live id of the term, if there is one
abbrev pub IsTermAt : List Tree → Option Tree → Option TermId → Type 0
IsTermAt bank term found = MatchOption found (term ≡ None) (λ id. IsLive bank id × (term ≡ Some (tree_of bank id)))
