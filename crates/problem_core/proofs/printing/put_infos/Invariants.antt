use Rattle.std.proofs.Common.{◌≡◌, ◌++◌, take}
use Rattle.std.specs.List.{flat_map}
use Rattle.problem_core.specs.Texts.{info_line}
use Rattle.problem_core.proofs.printing.put_infos.Given as goal

abbrev pub invariant-loop-info : goal.invariant-loop-info
invariant-loop-info l = l.out ≡ l.fn.out ++ flat_map (info_line) (take l.info-index l.infos)
