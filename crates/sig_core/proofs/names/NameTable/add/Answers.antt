use Rattle.std.proofs.Common.{◌≡◌, [], ◌∷◌, ◌++◌, ap, sym, ◌∙◌, Bool, if◌then◌else◌, None, false, map, nat_eq}
use Rattle.std.specs.List.{list_any}
use Rattle.std.specs.Prelude.{position}
use Rattle.std.specs.Cmp.Lexicographic.{pointwise}
use Rattle.std.proofs.lemmas.List.{map-append}
use Rattle.sig_core.specs.Names.{same_name}
use Rattle.sig_core.proofs.NameLemmas.{position-map, none_passes, AreDistinct-push}
use Rattle.sig_core.proofs.names.NameTable.add.Goals as goal

-- the names after the new one went last
names_after : (c : goal.In_ok-insert) → map (λ name. name.items) c.insert.new.self.keys ≡ c.args.self.now ++ c.args.name ∷ []
names_after c =
    let keys = c.self.inside.names.keys in
    let new = c.into_vec.result in
    let unknown : position (λ k. pointwise nat_eq c.args.name k.items) keys ≡ None = sym (position-map (same_name c.args.name) (λ name. name.items) keys) ∙ (rw c.self.view_is c.requires) in
    let fresh : list_any (λ k. pointwise nat_eq new.items k.items) keys ≡ false = rw c.into_vec.ensures (none_passes (λ k. pointwise nat_eq c.args.name k.items) keys unknown) in
    let pushed : c.insert.new.self.keys ≡ keys ++ new ∷ [] = c.in_ok-insert.ensures.keys ∙ ap (λ (b : Bool). if b then keys else keys ++ new ∷ []) fresh in
    ap (map (λ name. name.items)) pushed ∙ map-append (λ name. name.items) keys (new ∷ []) ∙ (rw (c.self.view_is, c.into_vec.ensures))

pub invariant_of-self-2 : goal.invariant_of-self-2
invariant_of-self-2 c = rw (names_after c) (AreDistinct-push c.args.self.now c.args.name c.requires (rw (← c.self.view_is) c.self.invariant))

pub returns-clause-ok : goal.returns-clause-ok
returns-clause-ok c = names_after c
