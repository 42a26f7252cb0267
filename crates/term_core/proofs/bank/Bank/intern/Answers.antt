use Rattle.std.proofs.Common.{◌≡◌, ◌<◌, ◌^◌, [], ◌∷◌, ◌++◌, map, length, Contains, sym, ap, subst, ◌∙◌, arith, rules, nat_eq}
use Rattle.std.proofs.lemmas.List.{get_or_push, length_push}
use Rattle.std.proofs.lemmas.List.Elements.{All-push}
use Rattle.term_core.specs.declared.tree.Tree.{Tree}
use Rattle.term_core.specs.Banks.{Keeps, tree_of, leaf}
use Rattle.term_core.specs.Nodes.{trees_of}
use Rattle.tables.specs.Tables.{Gains}
use Rattle.term_core.specs.Terms.{node}
use Rattle.term_core.specs.Typings.{IsBankOf, IsTermOf}
use Rattle.term_core.proofs.Growth.{Grown, Keeps-push, grown}
use Rattle.term_core.proofs.NodeReads.{live_in, live_read, found_live, found_term, found_there}
use Rattle.term_core.proofs.Order.{size-node}
use Rattle.term_core.proofs.Places.{popped, tabled}
use Rattle.term_core.proofs.Trees.{length-trees_of}
use Rattle.term_core.proofs.bank.Bank.intern.Goals as goal
use Rattle.term_core.proofs.bank.Bank.intern.Goals.{In_ok-push}

pub returns-in-Some-clause-live : goal.returns-in-Some-clause-live
returns-in-Some-clause-live c = found_live _ _ _ c.self.invariant.bank c.self.view_is c.as_slice.ensures c.args.con c.args.kids.now _ c.in-Some.ensures.0 c.in-Some.ensures.1

pub returns-in-Some-clause-tree : goal.returns-in-Some-clause-tree
returns-in-Some-clause-tree c = found_term _ _ _ c.self.invariant.bank c.self.view_is c.as_slice.ensures c.args.con c.args.kids.now _ c.in-Some.ensures.0 c.in-Some.ensures.1

pub returns-in-Some-clause-fresh : goal.returns-in-Some-clause-fresh
returns-in-Some-clause-fresh c =
    λ absent. absurd (absent (found_there _ _ _ c.self.invariant.bank c.self.view_is c.as_slice.ensures c.args.con c.args.kids.now _ c.in-Some.ensures.0 c.in-Some.ensures.1))

pub size_over-size-requires-clause-live : goal.size_over-size-requires-clause-live
size_over-size-requires-clause-live c = λ k d h. live_read _ _ _ c.self.view_is c.as_slice-2.ensures _ (c.requires.live k d h)

pub size_over-size-requires-clause-small : goal.size_over-size-requires-clause-small
size_over-size-requires-clause-small c =
    rw (c.as_slice-2.ensures, c.self.view_is) (subst (λ n. n < 2 ^ 32) (size-node c.args.con (map (tree_of c.args.self.now) c.args.kids.now)) c.requires.small)

-- the bank after the push
after : (c : In_ok-push) → Grown c.self.inside.nodes c.push.new.self c.args.con c.args.kids.now
after c =
    grown _ _ _ _ c.args.con c.args.kids.now _ _ _ c.self.invariant.bank c.as_slice.ensures c.as_slice-2.ensures (λ k d h. live_in _ _ c.self.view_is _ (c.requires.live k d h)) c.in_default.ensures c.new-own.ensures
    c.in_ok-append.ensures.ok c.size_over-size.ensures c.in_ok-push.ensures.ok

-- the term that was put last
abbrev put_last : In_ok-push → Tree
put_last c = node c.args.con (map (tree_of c.args.self.now) c.args.kids.now)

trees_after : (c : In_ok-push) → trees_of c.push.new.self ≡ c.args.self.now ++ put_last c ∷ []
trees_after c = (after c).trees ∙ ap (λ ts. ts ++ node c.args.con (map (tree_of ts) c.args.kids.now) ∷ []) c.self.view_is

count : (c : In_ok-push) → length c.args.self.now ≡ c.len.result
count c = omega (arith, ap length c.self.view_is, c.len.ensures, length-trees_of c.self.inside.nodes)

pub invariant_of-self-else-is_err : goal.invariant_of-self-else-is_err
invariant_of-self-else-is_err c =
    let inside = c.self.inside in
    let gains : Gains nat_eq inside.places c.push-2.new.table c.key_of-key.result c.len.result = search rules in
    tabled inside.places c.push-2.new.table inside.nodes c.push.new.self c.args.con c.args.kids.now _ _ _ c.key_of-key.result c.len.result c.self.invariant.keyed
    (after (goal.at.invariant_of-self-else-is_err c).In_ok-push).bank c.new-own.ensures c.in_ok-append.ensures.ok c.in_ok-push.ensures.ok c.key_of-key.ensures c.len.ensures gains

pub returns-then-is_err-clause-of_signature : goal.returns-then-is_err-clause-of_signature
returns-then-is_err-clause-of_signature c =
    let same = ap trees_of (popped c.pop.result c.self.inside.nodes _ c.pop.new.self _ c.in_ok-push.ensures.ok c.pop.ensures) ∙ c.self.view_is in
    λ sig one all. subst (IsBankOf sig) (sym same) all

pub returns-clause-live : goal.returns-clause-live
returns-clause-live c =
    let p = (goal.at.returns-clause-live c).In_ok-push in
    omega (arith, ap length (trees_after p), length_push p.args.self.now (put_last p), count p)

pub returns-clause-tree : goal.returns-clause-tree
returns-clause-tree c =
    let p = (goal.at.returns-clause-tree c).In_ok-push in
    ap (λ ts. tree_of ts (record { 0 = p.len.result })) (trees_after p) ∙ get_or_push p.args.self.now (put_last p) leaf p.len.result (count p)

pub returns-clause-known : goal.returns-clause-known
returns-clause-known c =
    let p = (goal.at.returns-clause-known c).In_ok-push in
    λ there. absurd ((after p).absent (subst (λ ts. Contains ts (node p.args.con (map (tree_of ts) p.args.kids.now))) (sym p.self.view_is) there))

pub returns-clause-fresh : goal.returns-clause-fresh
returns-clause-fresh c = λ absent. trees_after (goal.at.returns-clause-fresh c).In_ok-push

pub returns-clause-each_once : goal.returns-clause-each_once
returns-clause-each_once c = (after (goal.at.returns-clause-each_once c).In_ok-push).bank.each_once

pub returns-clause-kept : goal.returns-clause-kept
returns-clause-kept c =
    let p = (goal.at.returns-clause-kept c).In_ok-push in
    subst (Keeps p.args.self.now) (sym (trees_after p)) (Keeps-push p.args.self.now (put_last p))

pub returns-clause-of_signature : goal.returns-clause-of_signature
returns-clause-of_signature c =
    let p = (goal.at.returns-clause-of_signature c).In_ok-push in
    λ sig one all. subst (IsBankOf sig) (sym (trees_after p)) (All-push (IsTermOf sig) p.args.self.now (put_last p) all one)

pub returns-in_err-push-clause-of_signature : goal.returns-in_err-push-clause-of_signature
returns-in_err-push-clause-of_signature c = λ sig one all. subst (IsBankOf sig) (sym (ap trees_of c.in_err-push.ensures.err ∙ c.self.view_is)) all
