use Rattle.std.proofs.Common.{◌≡◌, ◌++◌, None, List, [], subst}
use Rattle.syntax_core.specs.declared.fault.Fault.{Fault}
use Rattle.syntax_core.specs.declared.commands.Head.TheVariants as head
use Rattle.name_core.specs.Faults.{first}
use Rattle.name_core.specs.Limits.{limits}
use Rattle.name_core.specs.Names.{names}
use Rattle.name_core.specs.States.{State}
use Rattle.making_core.proofs.Fits.{none-left, none-right}
use Rattle.sig_core.specs.WellFormed.{IsWellFormed}
use Rattle.making_core.specs.Making.{with_terms}
use Rattle.state_core.proofs.Growing.{terms_taken}
use Rattle.making_core.proofs.Terms.{terms_fit}
use Rattle.state_core.proofs.stated.StatedParts.declare_terms.Goals as goal

pub put_terms-requires : goal.put_terms-requires
put_terms-requires c =
    let s : State = c.args.self.now in
    let form = c.args.form.now in
    let L : List Fault = limits s head.DeclareTermTypes form in
    let N : List Fault = names s head.DeclareTermTypes form in
    let h : first (L ++ N) ≡ None = none-left (L ++ N) [] (none-left (L ++ N ++ []) [] c.requires.fine) in
    terms_fit s.signature form c.requires.sound.signature c.requires.groups (none-left L N h) (none-right L N h)

pub returns-in-Ok : goal.returns-in-Ok
returns-in-Ok c =
    let well : IsWellFormed (with_terms c.args.self.now.signature c.args.form.now) = subst (λ (s : State). IsWellFormed s.signature) c.in-Ok.ensures.added c.in-Ok.ensures.well_formed in
    terms_taken c.args.self.now c.put_terms.new.self c.args.form.now c.requires.come c.requires.sound c.requires.fine c.in-Ok.ensures.added well
