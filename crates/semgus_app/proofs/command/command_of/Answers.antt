use Rattle.std.proofs.Common.{codes, sym, ◌∙◌, ap, Some}
use Rattle.std.proofs.lemmas.Slice.Eq.{bytes_eq-Decides}
use Rattle.semgus_app.proofs.Forms.{no_solve, no_show, no_check, or_none}
use Rattle.semgus_app.proofs.command.command_of.Goals as goal

pub returns-then-eq : goal.returns-then-eq
returns-then-eq c =
    let named = (bytes_eq-Decides c.in_ok-name.name.now (codes "solve")).0 (sym c.if-eq.ensures) in
    or_none _ _ _ c.solve_of.result (no_solve c.args.words.now (c.in_ok-name.ensures ∙ ap Some named)) c.solve_of.ensures

pub returns-then-eq-2 : goal.returns-then-eq-2
returns-then-eq-2 c =
    let named = (bytes_eq-Decides c.in_ok-name.name.now (codes "show")).0 (sym c.if-eq-2.ensures) in
    or_none _ _ _ c.show_of.result (no_show c.args.words.now (c.in_ok-name.ensures ∙ ap Some named)) c.show_of.ensures

pub returns-then-eq-3 : goal.returns-then-eq-3
returns-then-eq-3 c =
    let named = (bytes_eq-Decides c.in_ok-name.name.now (codes "check")).0 (sym c.if-eq-3.ensures) in
    or_none _ _ _ c.check_of.result (no_check c.args.words.now (c.in_ok-name.ensures ∙ ap Some named)) c.check_of.ensures
