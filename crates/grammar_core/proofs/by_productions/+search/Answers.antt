use Rattle.std.proofs.Common.{◌≡◌, ℕ, ◌+◌, ◌<◌, ◌≤◌, ◌∙◌, ◌&&◌, Bool, true, false, nat_eq, List, length, map, drop, get_or, ap, ap₂, sym, arith}
use lib.Pointwise.{pointwise}
use Rattle.std.specs.List.{list_any}
use Rattle.std.proofs.lemmas.List.{get_or_default}
use Rattle.sig_core.specs.declared.ids.ConId.{ConId}
use Rattle.term_core.specs.declared.ids.TermId.{TermId}
use Rattle.term_core.specs.declared.tree.Tree.{Tree}
use Rattle.term_core.specs.Banks.{tree_of}
use Rattle.term_core.specs.Terms.{con_of, kids_of, node}
use Rattle.term_core.proofs.Parts.{kids_of-node}
use Rattle.grammar_core.specs.declared.ids.NtId.{NtId}
use Rattle.grammar_core.specs.declared.production.Production.{Production}
use Rattle.grammar_core.specs.Grammars.{Nonterminal, IsKnown, blank, is_member, productions_of}
use Rattle.grammar_core.proofs.Membership.{is_member-of}
use Rattle.grammar_core.proofs.Pointwise.{any_end, any_found, any_passed, both_false, lengths_differ, pointwise-map, pointwise_at, pointwise_end}
use Rattle.grammar_core.proofs.by_productions.+search.Goals as goal
use Rattle.grammar_core.proofs.by_productions.+search.Goals.{is_produced-else-eq-via-then-eq+else-are_produced, is_produced-else-eq-via-else-eq}

-- the children's test, over the ids
by_ids : (grammar : List Nonterminal) (bank : List Tree) (id : TermId) (kids : List TermId) (args : List NtId) → tree_of bank id ≡ node (con_of (tree_of bank id)) (map (tree_of bank) kids)
    → pointwise (is_member grammar) (kids_of (tree_of bank id)) args ≡ pointwise (λ kid n. is_member grammar (tree_of bank kid) n) kids args
by_ids grammar bank id kids args e =
    ap (λ ts. pointwise (is_member grammar) ts args) (ap kids_of e ∙ kids_of-node (con_of (tree_of bank id)) (map (tree_of bank) kids)) ∙ pointwise-map (is_member grammar) (tree_of bank) kids args

pub are_produced-returns-then-kids-args : goal.are_produced-returns-then-kids-args
are_produced-returns-then-kids-args t c =
    let test = λ (kid : TermId) (n : NtId). is_member c.args.grammar.now (tree_of c.args.bank.now kid) n in
    sym (by_ids c.args.grammar.now c.args.bank.now c.args.id c.kids-kids.result.now c.args.args.now c.kids-kids.ensures.node ∙ lengths_differ test c.kids-kids.result.now c.args.args.now c.if-kids-args.true)

pub are_produced-returns-then-not-is_produced : goal.are_produced-returns-then-not-is_produced
are_produced-returns-then-not-is_produced t c =
    let test = λ (kid : TermId) (n : NtId). is_member c.args.grammar.now (tree_of c.args.bank.now kid) n in
    let kids = c.kids-kids.result.now in
    let args = c.args.args.now in
    let i = c.loop-i.i in
    let in_args : i < length args = omega (arith, c.loop-i-test.true, c.if-kids-args.false) in
    let no = sym c.is_produced.ensures ∙ c.if-not-is_produced.true in
    sym (by_ids c.args.grammar.now c.args.bank.now c.args.id kids args c.kids-kids.ensures.node ∙ sym c.loop-i.invariant ∙ pointwise_at test kids args i (record { 0 = 0 }) (record { 0 = 0 }) c.loop-i-test.true in_args
    ∙ ap (λ b. b && pointwise test (drop (i + 1) kids) (drop (i + 1) args)) no)

pub are_produced-returns : goal.are_produced-returns
are_produced-returns t c =
    let test = λ (kid : TermId) (n : NtId). is_member c.args.grammar.now (tree_of c.args.bank.now kid) n in
    let kids = c.kids-kids.result.now in
    let args = c.args.args.now in
    let past : length args ≤ c.loop-i.i = omega (arith, c.loop-i-test.false, c.if-kids-args.false) in
    sym (by_ids c.args.grammar.now c.args.bank.now c.args.id kids args c.kids-kids.ensures.node ∙ sym c.loop-i.invariant ∙ pointwise_end test kids args c.loop-i.i c.loop-i-test.false past)

-- what the read of a nonterminal's productions gave
items_are : (grammar : List Nonterminal) (n : NtId) (k : ℕ) (read : Nonterminal) (items : List Production) → IsKnown grammar n → k ≡ n.0 → items ≡ (get_or grammar k read).productions → items ≡ productions_of grammar n
items_are grammar n k read items known at items_is =
    let within : k < length grammar = omega arith in
    items_is ∙ ap (λ (m : Nonterminal). m.productions) (get_or_default grammar k read blank within ∙ ap (λ i. get_or grammar i blank) at)

-- whether a production makes the term
abbrev fits : List Nonterminal → Tree → ConId → Production → Bool
fits grammar t con p = nat_eq p.con.0 con.0 && pointwise (is_member grammar) (kids_of t) p.args

by_items : (grammar : List Nonterminal) (t : Tree) (n : NtId) (con : ConId) (items : List Production) → con ≡ con_of t → items ≡ productions_of grammar n → is_member grammar t n ≡ list_any (fits grammar t con) items
by_items grammar t n con items e f = is_member-of grammar t n ∙ ap₂ (λ k ps. list_any (fits grammar t k) ps) (sym e) (sym f)

pub is_produced-returns-then-are_produced : goal.is_produced-returns-then-are_produced
is_produced-returns-then-are_produced t c =
    let grammar = c.args.grammar.now in
    let tree = tree_of c.args.bank.now c.args.id in
    let items = c.as_slice-production-items.result.now in
    let item = c.production-item.result in
    let all = items_are grammar c.args.nt c.from.result c.index-grammar-from.result items c.requires.nonterminal c.from.ensures c.as_slice-production-items.ensures in
    let one : fits grammar tree c.con-con.result item ≡ true = ap₂ (λ a b. a && b) (sym c.if-eq.ensures) (ap (pointwise (is_member grammar) (kids_of tree)) (sym c.as_slice.ensures) ∙ sym c.are_produced.ensures ∙ c.if-are_produced.true) in
    sym (by_items grammar tree c.args.nt c.con-con.result items c.con-con.ensures all ∙ sym c.loop-production.invariant
    ∙ any_found (fits grammar tree c.con-con.result) items c.loop-production.production-index item c.loop-production-test.true c.production-item.is one)

pub is_produced-loop-production-preserved : goal.is_produced-loop-production-preserved
is_produced-loop-production-preserved t c =
    let grammar = c.args.grammar.now in
    let tree = tree_of c.args.bank.now c.args.id in
    let items = c.as_slice-production-items.result.now in
    let item = c.production-item.result in
    let none : fits grammar tree c.con-con.result item ≡ false = elim c.else-eq.branch [
      | is_produced-else-eq-via-then-eq+else-are_produced w ↦ both_false (nat_eq item.con.0 c.con-con.result.0) (pointwise (is_member grammar) (kids_of tree) item.args)
          (ap (pointwise (is_member grammar) (kids_of tree)) (sym w.as_slice.ensures) ∙ sym w.are_produced.ensures ∙ w.if-are_produced.false)
      | is_produced-else-eq-via-else-eq w ↦ ap (λ b. b && pointwise (is_member grammar) (kids_of tree) item.args) (sym w.if-eq.ensures)
    ] in
    any_passed (fits grammar tree c.con-con.result) items c.loop-production.production-index item c.loop-production-test.true c.production-item.is none ∙ c.loop-production.invariant

pub is_produced-returns : goal.is_produced-returns
is_produced-returns t c =
    let grammar = c.args.grammar.now in
    let tree = tree_of c.args.bank.now c.args.id in
    let items = c.as_slice-production-items.result.now in
    let all = items_are grammar c.args.nt c.from.result c.index-grammar-from.result items c.requires.nonterminal c.from.ensures c.as_slice-production-items.ensures in
    sym (by_items grammar tree c.args.nt c.con-con.result items c.con-con.ensures all ∙ sym c.loop-production.invariant ∙ any_end (fits grammar tree c.con-con.result) items c.loop-production.production-index c.loop-production-test.false)
