use Rattle.std.proofs.Common.{◌≡◌, drop}
use Rattle.term_core.specs.Keys.{key_after, key_of}
use Rattle.term_core.proofs.node.key_of.Given as goal

abbrev pub invariant-loop-kid : goal.invariant-loop-kid
invariant-loop-kid l = key_after l.key (drop l.kid-index l.kids) ≡ key_of l.fn.con l.kids
