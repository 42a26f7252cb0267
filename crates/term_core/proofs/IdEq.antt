-- The derived `==` of ids decides whether they are the same.
use Rattle.std.proofs.Common.{◌≡◌, rules}
use Rattle.std.specs.Bool.{Decides}
use Rattle.term_core.specs.declared.ids.TermId.{TermId}
use Rattle.term_core.specs.contracts.ids.TermIdPartialEq.TheImpl.{ghosts}

pub id_eq-Decides : (x y : TermId) → Decides (ghosts.eq x y) (x ≡ y)
id_eq-Decides x y = search rules
