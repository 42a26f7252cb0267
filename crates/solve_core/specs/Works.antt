-- What a search leaves behind.
use Rattle.std.specs.Prelude.{ℕ, Option, List, [], option_map}
use Rattle.term_core.specs.declared.ids.TermId.{TermId}
use Rattle.term_core.specs.declared.tree.Tree.{Tree}
use Rattle.term_core.specs.Banks.{tree_of}

-- the terms that were made, and how many marks were taken
pub record Working : Type 0 where
  pub bank : List Tree
  pub looks : ℕ

-- nothing was done yet
abbrev pub no_work : Working
no_work = record { bank = []; looks = 0 }

-- the term that was found, if there is one
abbrev pub term_found : List Tree → Option TermId → Option Tree
term_found bank found = option_map (tree_of bank) found
