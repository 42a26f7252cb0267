-- Signatures whose names can be spelled, and how deep the text of a term nests.
use Rattle.std.specs.Prelude.{ℕ, ◌+◌, IsTrue, List, [], ◌∷◌, All}
use Rattle.std.specs.List.{list_all}
use Rattle.sig_core.specs.Signatures.{Declarations}
use Rattle.sexpr_core.specs.Lexicon.{is_quoted_byte}
use Rattle.sexpr_core.specs.Sizes.{greatest}
use Rattle.term_core.specs.declared.tree.Tree.{Tree}
use Rattle.term_core.specs.declared.tree.Tree.TheOpen.{Tree-F}
use Rattle.term_core.specs.declared.tree.Tree.TheFolds.{fold-Tree}

-- a symbol spells the name: its bytes may stand between bars
abbrev pub CanBeSpelled : List ℕ → Type 0
CanBeSpelled name = IsTrue (list_all is_quoted_byte name)

-- symbols spell the names of the constructors and of the relations
pub record HasSpelledNames (sig : Declarations) : Type 0 where
  pub constructors : All (λ c. CanBeSpelled c.name) sig.constructors
  pub relations : All (λ r. CanBeSpelled r.name) sig.relations

-- one more than the children's; a constant is no list
abbrev pub nesting_over : List ℕ → ℕ
nesting_over [] = 0
nesting_over (n ∷ ns) = 1 + greatest (n ∷ ns)

abbrev pub term_nesting_step : Tree-F ℕ → ℕ
term_nesting_step t = nesting_over t.kids

-- how deep lists nest in the text of a term
abbrev pub term_nesting : Tree → ℕ
term_nesting = fold-Tree ℕ term_nesting_step
