use Rattle.std.proofs.Common.{◌≢◌, ap, ◌∙◌}
use Rattle.std.specs.Option.{option_to_list}
use Rattle.std.proofs.lemmas.List.{map-append}
use Rattle.std.proofs.Common.{map}
use Rattle.sig_core.proofs.NameLemmas.{AllPairs-front}
use Rattle.sig_core.proofs.names.NameTable.remove_last.Goals as goal

pub invariant_of-self : goal.invariant_of-self
invariant_of-self c =
    AllPairs-front (λ a b. a ≢ b) (map (λ name. name.items) c.pop.new.self.keys) (map (λ name. name.items) (option_to_list c.pop.result)) (map (λ name. name.items) c.self.inside.names.keys)
    (ap (map (λ name. name.items)) c.pop.ensures.keys ∙ map-append (λ name. name.items) c.pop.new.self.keys (option_to_list c.pop.result)) c.self.invariant
