use Rattle.std.proofs.Common.{◌≡◌, ◌++◌, map, filter, drop}
use Rattle.sig_core.specs.Signatures.{kinds_of}
use Rattle.marks_core.specs.Tables.{has_inputs, probe_with}
use Rattle.marks_core.proofs.probe.put_probes.Given as goal

abbrev pub invariant-loop-inputs : goal.invariant-loop-inputs
invariant-loop-inputs l = l.probes ++ map (probe_with l.relation) (filter (has_inputs (kinds_of l.signature l.relation)) (drop l.inputs-index l.examples))
    ≡ l.fn.probes ++ map (probe_with l.relation) (filter (has_inputs (kinds_of l.signature l.relation)) l.examples)
