use Rattle.std.proofs.Common.{◌≡◌, ◌≤◌, ◌++◌, map, drop}
use Rattle.std.specs.List.{flat_map}
use Rattle.sig_core.specs.Lists.{greatest}
use Rattle.syntax_core.specs.declared.syntax.Body.{Body}
use Rattle.name_core.specs.Bodies.{branches_within, width}
use Rattle.sort_core.specs.Branches.{open_branch}
use Rattle.sort_core.proofs.branching.+branching.Given as goal

-- what is left makes the rest, and is no wider
abbrev pub invariant-put_all_branches-loop-body : goal.invariant-put_all_branches-loop-body
invariant-put_all_branches-loop-body l =
    (l.out ++ map (open_branch l.signature l.variables) (flat_map (λ (b : Body). branches_within b l.around) (drop l.body-index l.bodies))
    ≡ l.fn.out ++ map (open_branch l.signature l.variables) (flat_map (λ (b : Body). branches_within b l.around) l.bodies))
    × (greatest (map width (drop l.body-index l.bodies)) ≤ greatest (map width l.bodies))
