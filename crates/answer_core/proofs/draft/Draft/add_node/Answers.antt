use Rattle.std.proofs.Common.{Ok, [], ◌∷◌, ◌++◌, map, sym, ap, ◌∙◌}
use Rattle.term_core.specs.Banks.{tree_of}
use Rattle.term_core.specs.Terms.{node}
use Rattle.answer_core.proofs.Banking.{map_more, root_kept, same_told, steps_kept}
use Rattle.answer_core.proofs.draft.Draft.add_node.Goals as goal

pub returns-clause-told : goal.returns-clause-told
returns-clause-told c =
    let self = c.args.self.now in
    let made = c.in_ok-con.ensures.ok in
    let kept = c.in_ok-id.ensures.kept in
    let term = c.in_ok-id.ensures.tree ∙ ap (λ ids. node c.in_ok-con.con (map (tree_of self.bank) ids)) c.as_slice.ensures ∙ made.term in
    rw made.good (ap Ok (same_told self.due _ _ self.size _ _ _ _ _
    (sym (root_kept self.bank c.intern.new.self self.root kept c.requires.root))
    (sym (map_more self.bank c.intern.new.self self.nodes c.push.new.self c.in_ok-id.id kept c.requires.nodes c.in_ok-push.ensures.ok ∙ ap (λ t. map (tree_of self.bank) self.nodes ++ t ∷ []) term))
    (sym (steps_kept self.bank c.intern.new.self self.steps kept c.requires.steps))))
