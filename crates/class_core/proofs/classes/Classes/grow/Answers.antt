use Rattle.std.proofs.Common.{◌≡◌, ◌+◌, ◌∙◌, ◌++◌, ◌∷◌, [], length, get_or, inr, sym, ap, subst, arith}
use Rattle.std.proofs.lemmas.List.{length_push}
use Rattle.size_core.specs.Lists.{StandFor}
use Rattle.size_core.proofs.Made.{lists_stay}
use Rattle.class_core.specs.Standing.{AllKnow, AreClasses, KnowsLeaders, LeadersStand, ListsStand}
use Rattle.class_core.proofs.Growth.{sets_ready, whole_back}
use Rattle.class_core.proofs.Serving.{leaders_stay}
use Rattle.class_core.proofs.Stepping.{leader_levels_more}
use Rattle.class_core.proofs.Unchanged.{to_known, to_leaders, to_stand}
use Rattle.class_core.proofs.classes.Classes.grow.Goals as goal
use Rattle.class_core.proofs.classes.Classes.grow.Goals.{In_ok-make_sets}

pub grow_lists-requires-clause-lists : goal.grow_lists-requires-clause-lists
grow_lists-requires-clause-lists g c = λ other. (let is = c.requires.lists other in (is.0, omega (arith, is.1, c.requires.next)))

-- the leaders so far, in the bank that the lists have left
led : (g : _) (c : In_ok-make_sets g) → LeadersStand c.args.grammar.now c.grow_lists.new.bank (g.L.Lens.same_mark c.args.self.now.lens) c.args.self.now.leaders
led g c = leaders_stay c.args.grammar.now c.args.bank.now c.grow_lists.new.bank c.grow_lists.ensures.kept (g.L.Lens.same_mark c.args.self.now.lens) c.args.self.now.leaders c.requires.stands.leads

pub level_of-requires-clause-leaders : goal.level_of-requires-clause-leaders
level_of-requires-clause-leaders g c' =
    let c = (goal.at.level_of-requires-clause-leaders g c').In_ok-make_sets in
    subst (LeadersStand c.args.grammar.now c.grow_lists.new.bank (g.L.Lens.same_mark c.args.self.now.lens)) (sym c'.as_slice.ensures) (led g c)

pub level_of-requires-clause-lists : goal.level_of-requires-clause-lists
level_of-requires-clause-lists g c = λ other.
    (let is = c.in_ok-grow_lists.ensures.lists other in (
      subst (StandFor c.args.grammar.now c.grow_lists.new.bank) (sym c.levels.ensures) is.0,
      omega (arith, ap length c.levels.ensures, ap length c.as_slice.ensures, is.1, c.requires.next),
    ))

-- the sets before the marks are taken
ready : (g : _) (c : In_ok-make_sets g) → (length c.make_sets.new.sets.items ≡ length c.args.grammar.now) × AllKnow c.args.grammar.now (g.L.Lens.has_mark c.args.self.now.lens) (g.L.Lens.same_mark c.args.self.now.lens) g.L.Mark.Ord.cmp (length c.args.self.now.leaders) c.make_sets.new.sets.items
ready g c =
    sets_ready c.args.grammar.now (g.L.Lens.has_mark c.args.self.now.lens) (g.L.Lens.same_mark c.args.self.now.lens) g.L.Mark.Ord.cmp c.args.self.now.marks.items c.make_sets.new.sets.items (length c.args.self.now.leaders) c.from.result
    c.requires.stands.sets_stand (c.from.ensures ∙ c.len.ensures.value) c.requires.stands.know c.in_ok-make_sets.ensures.made c.in_ok-make_sets.ensures.kept

pub level_of-requires-clause-sets : goal.level_of-requires-clause-sets
level_of-requires-clause-sets g c' =
    let c = (goal.at.level_of-requires-clause-sets g c').In_ok-make_sets in
    ap length c'.as_mut_slice.ensures.value ∙ (ready g c).0

pub level_of-requires-clause-marks : goal.level_of-requires-clause-marks
level_of-requires-clause-marks g c' =
    let c = (goal.at.level_of-requires-clause-marks g c').In_ok-make_sets in
    let has = g.L.Lens.has_mark c.args.self.now.lens in
    let same = g.L.Lens.same_mark c.args.self.now.lens in
    subst (λ k. AllKnow c.args.grammar.now has same g.L.Mark.Ord.cmp k c'.as_mut_slice.result.now) (sym (ap length c'.as_slice.ensures))
    (subst (AllKnow c.args.grammar.now has same g.L.Mark.Ord.cmp (length c.args.self.now.leaders)) (sym c'.as_mut_slice.ensures.value) (ready g c).1)

pub returns-clause-signature : goal.returns-clause-signature
returns-clause-signature g c = (c.level_of.ensures.meaning.signatures_stay c.args.signature.now).1 c.requires.signature

pub returns-clause-lists : goal.returns-clause-lists
returns-clause-lists g c' =
    let c = (goal.at.returns-clause-lists g c').In_ok-make_sets in
    let grammar = c.args.grammar.now in
    let lens = c.args.self.now.lens in
    let new = c'.level_of.new.lens in
    let bank = c'.level_of.new.bank in
    let lists = c.grow_lists.new.lists in
    let leaders = c.args.self.now.leaders in
    let made : c'.push.new.self ≡ leaders ++ c'.in_ok-level.level ∷ [] = c'.in_ok-push.ensures.ok in
    let long : length c'.push.new.self ≡ c.args.size = ap length made ∙ length_push leaders c'.in_ok-level.level ∙ sym c.requires.next in
    subst (ListsStand grammar bank (g.L.Lens.is_plain new) lists) (sym long)
    (to_stand (g.L.Lens.has_mark lens) (g.L.Lens.has_mark new) (g.L.Lens.same_mark lens) (g.L.Lens.same_mark new) (g.L.Lens.is_for lens) (g.L.Lens.is_for new) (g.L.Lens.is_plain lens) (g.L.Lens.is_plain new) c'.level_of.ensures.meaning grammar bank lists c.args.size
    (λ other. (let is = c.in_ok-grow_lists.ensures.lists other in (lists_stay grammar c.grow_lists.new.bank bank lists c'.level_of.ensures.kept is.0, is.1))))

pub returns-clause-stands : goal.returns-clause-stands
returns-clause-stands g c' =
    let c = (goal.at.returns-clause-stands g c').In_ok-make_sets in
    let grammar = c.args.grammar.now in
    let lens = c.args.self.now.lens in
    let new = c'.level_of.new.lens in
    let has = g.L.Lens.has_mark lens in
    let same = g.L.Lens.same_mark lens in
    let cmp = g.L.Mark.Ord.cmp in
    let bank = c'.level_of.new.bank in
    let marks = c'.level_of.new.marks in
    let leaders = c.args.self.now.leaders in
    let made : c'.push.new.self ≡ leaders ++ c'.in_ok-level.level ∷ [] = c'.in_ok-push.ensures.ok in
    let long : length c'.push.new.self ≡ c.args.size = ap length made ∙ length_push leaders c'.in_ok-level.level ∙ sym c.requires.next in
    let count : length marks ≡ length c.make_sets.new.sets.items = c'.level_of.ensures.sets ∙ ap length c'.as_mut_slice.ensures.value in
    let back = whole_back c.make_sets.new.sets.len marks c.make_sets.new.sets.items c.make_sets.new.sets.ok.0 count in
    let leads = leader_levels_more grammar same c.grow_lists.new.bank bank leaders c'.push.new.self c'.in_ok-level.level c.args.size c.requires.next c'.level_of.ensures.kept (led g c) c'.in_ok-level.ensures.level made in
    let known = c'.in_ok-level.ensures.marks in
    let stays = c'.level_of.ensures.meaning in
    subst (AreClasses grammar bank (g.L.Lens.has_mark new) (g.L.Lens.same_mark new) cmp c'.push.new.self) (sym back) (record {
      leads = to_leaders has (g.L.Lens.has_mark new) same (g.L.Lens.same_mark new) (g.L.Lens.is_for lens) (g.L.Lens.is_for new) (g.L.Lens.is_plain lens) (g.L.Lens.is_plain new) stays grammar bank c'.push.new.self leads;
      know = λ n h d reached. subst (λ k. KnowsLeaders grammar (g.L.Lens.has_mark new) (g.L.Lens.same_mark new) cmp n k (get_or marks n.0 d)) (sym long)
          (to_known has (g.L.Lens.has_mark new) same (g.L.Lens.same_mark new) (g.L.Lens.is_for lens) (g.L.Lens.is_for new) (g.L.Lens.is_plain lens) (g.L.Lens.is_plain new) stays grammar cmp n c.args.size (get_or marks n.0 d) (known n h d reached));
      sets_stand = inr (count ∙ (ready g c).0);
    })
