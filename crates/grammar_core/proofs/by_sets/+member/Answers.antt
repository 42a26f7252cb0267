use Rattle.std.proofs.Common.{◌<◌, ◌+◌, ◌-◌, ◌*◌, ◌∷◌, ◌++◌, length, map, sum, take, get_or, All, sym, ap, ◌∙◌, arith, rules}
use Rattle.std.proofs.lemmas.List.Elements.{All-take}
use Rattle.term_core.specs.declared.ids.TermId.{TermId}
use Rattle.term_core.specs.Banks.{IsLive, tree_of}
use Rattle.term_core.specs.Terms.{con_of, node, size}
use Rattle.term_core.proofs.Order.{size-node}
use Rattle.grammar_core.specs.Grammars.{is_member}
use Rattle.grammar_core.specs.Sets.{sets_of}
use Rattle.grammar_core.proofs.MemberSets.{fewer, joined, made_is, nothing, sets-More}
use Rattle.grammar_core.proofs.by_sets.+member.Goals as goal

pub set_of-set_over-requires : goal.set_of-set_over-requires
set_of-set_over-requires t c =
    let T = tree_of c.args.bank.now in
    let kids = c.kids.result.now in
    let whole = ap size c.kids.ensures.node ∙ size-node (con_of (T c.args.id)) (map T kids) in
    let falls : 2 * sum (map size (map T kids)) + 1 < t = omega (arith, whole, c.decreases) in
    let live : All (IsLive c.args.bank.now) kids = λ k d h. omega (arith, c.kids.ensures.lower k d h, c.requires.live) in
    search rules

pub set_over-returns-in_default : goal.set_over-returns-in_default
set_over-returns-in_default t c =
    let grammar = c.args.grammar.now in
    let T = tree_of c.args.bank.now in
    let con = c.args.con in
    λ others are n known. c.produced.ensures n known
    ∙ made_is grammar c.requires.known con others (sets_of c.args.sets.now) are n known
    ∙ ap (λ ks. is_member grammar (node con (map T ks ++ others)) n) (sym (nothing c.args.kids.now c.in_default.len_below))

pub set_over-set_over-requires : goal.set_over-set_over-requires
set_over-set_over-requires t c =
    let T = tree_of c.args.bank.now in
    let kids = c.args.kids.now in
    let less = fewer T kids c.in-len1-up.len_at_least in
    let falls : 2 * sum (map size (map T (take (length kids - 1) kids))) + 1 < t = omega (arith, less, c.decreases) in
    let live : All (IsLive c.args.bank.now) (take (length kids - 1) kids) = All-take (IsLive c.args.bank.now) (length kids - 1) kids c.requires.live in
    search rules

pub set_over-returns : goal.set_over-returns
set_over-returns t c =
    let grammar = c.args.grammar.now in
    let T = tree_of c.args.bank.now in
    let con = c.args.con in
    let kids = c.args.kids.now in
    let d : TermId = record { 0 = 0 } in
    λ others are n known.
    let gives = simp sets-More at (c.set_over.ensures (T (get_or kids (length kids - 1) d) ∷ others)) in
    gives (c.set_of-set.ensures, are) n known
    ∙ ap (λ ts. is_member grammar (node con ts) n) (joined T kids d others c.in-len1-up.len_at_least)
