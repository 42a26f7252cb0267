use Rattle.std.proofs.Common.{◌≡◌, ◌++◌, take}
use Rattle.std.specs.List.{flat_map}
use Rattle.problem_core.specs.Texts.{atom_form, next_text}
use Rattle.problem_core.proofs.atom_texts.put_each_atom.Given as goal

abbrev pub invariant-loop-atom : goal.invariant-loop-atom
invariant-loop-atom l = l.out ≡ l.fn.out ++ flat_map (λ atom. next_text (atom_form l.signature l.rule atom)) (take l.atom-index l.atoms)
