use Rattle.std.proofs.Common.{◌≡◌, ◌++◌, take}
use Rattle.std.specs.List.{flat_map}
use Rattle.problem_core.specs.Texts.{next_text, symbol_form, type_name}
use Rattle.problem_core.proofs.type_texts.put_child_types.Given as goal

abbrev pub invariant-loop-id : goal.invariant-loop-id
invariant-loop-id l = l.out ≡ l.fn.out ++ flat_map (λ t. next_text (symbol_form (type_name l.signature t))) (take l.id-index l.types)
