-- Rules that are small.
use Rattle.std.specs.Prelude.{◌≤◌, length, All}
use Rattle.rule_core.specs.declared.rule.Rule.{Rule}
use Rattle.rule_core.specs.Rulebooks.{HasSmallParts}

-- at most 8 atoms, of fewer than 2 ^ 32 nodes
pub record IsShort (rule : Rule) : Type 0 where
  pub few : length rule.atoms ≤ 8
  pub small : All HasSmallParts rule.atoms
