use Rattle.std.proofs.Common.{◌≡◌, ◌+◌, ◌∙◌, length, get_or, refl, sym, ap, subst, arith}
use Rattle.std.specs.List.{sum_by}
use Rattle.std.proofs.lemmas.List.{length_push}
use Rattle.std.specs.BTreeSet.{BTreeSet}
use Rattle.grammar_core.specs.declared.ids.NtId.{NtId}
use Rattle.grammar_core.specs.Grammars.{Reaches, start}
use Rattle.lens_core.specs.Lenses.{Stays}
use Rattle.lens_core.proofs.Staying.{Stays-refl, Stays-trans}
use Rattle.size_core.proofs.Growing.{Keeps-refl, Keeps-trans}
use Rattle.class_core.specs.Choices.{LooksAt}
use Rattle.class_core.specs.Looks.{AreCandidateLists}
use Rattle.class_core.proofs.Serving.{leaders_stay, lists_serve_stay}
use Rattle.class_core.proofs.Stepping.{known_elsewhere, known_more, leaders_more, looks_more, looks_none}
use Rattle.class_core.proofs.Unchanged.{Stays-sym, to_candidates, to_known, to_leaders, to_list, to_serve}
use Rattle.class_core.proofs.levels.level_of.Goals as goal

pub loop-n-init : goal.loop-n-init
loop-n-init g c =
    let lens = c.args.lens.now in
    record {
      kept = Keeps-refl c.args.bank.now;
      count = ap length c.new-level.ensures;
      lists = λ m h. absurd (omega arith);
      done = λ m h. absurd (omega arith);
      left = λ m h l. c.requires.marks m (omega (arith, c.requires.sets));
      looks = looks_none c.args.grammar.now (g.L.Lens.same_mark lens) (g.L.Lens.is_plain lens) c.args.size (g.L.Lens.looked lens);
      fits = c.requires.bank;
      stays = Stays-refl (g.L.Lens.has_mark lens) (g.L.Lens.same_mark lens) (g.L.Lens.is_for lens) (g.L.Lens.is_plain lens);
    }

pub leaders_at-requires-clause-leaders : goal.leaders_at-requires-clause-leaders
leaders_at-requires-clause-leaders g c =
    let lens = c.args.lens.now in
    let mid = c.loop-n.lens in
    to_leaders (g.L.Lens.has_mark lens) (g.L.Lens.has_mark mid) (g.L.Lens.same_mark lens) (g.L.Lens.same_mark mid) (g.L.Lens.is_for lens) (g.L.Lens.is_for mid) (g.L.Lens.is_plain lens) (g.L.Lens.is_plain mid) c.loop-n.invariant.stays c.args.grammar.now
    c.loop-n.bank c.args.leaders.now (leaders_stay c.args.grammar.now c.args.bank.now c.loop-n.bank c.loop-n.invariant.kept (g.L.Lens.same_mark lens) c.args.leaders.now c.requires.leaders)

pub leaders_at-requires-clause-lists : goal.leaders_at-requires-clause-lists
leaders_at-requires-clause-lists g c =
    let lens = c.args.lens.now in
    let mid = c.loop-n.lens in
    to_serve (g.L.Lens.has_mark lens) (g.L.Lens.has_mark mid) (g.L.Lens.same_mark lens) (g.L.Lens.same_mark mid) (g.L.Lens.is_for lens) (g.L.Lens.is_for mid) (g.L.Lens.is_plain lens) (g.L.Lens.is_plain mid) c.loop-n.invariant.stays c.args.grammar.now
    c.loop-n.bank c.args.lists.now (length c.args.leaders.now) (lists_serve_stay c.args.grammar.now c.args.bank.now c.loop-n.bank c.loop-n.invariant.kept (g.L.Lens.is_plain lens) c.args.lists.now (length c.args.leaders.now) c.requires.lists)

pub leaders_at-requires-clause-marks : goal.leaders_at-requires-clause-marks
leaders_at-requires-clause-marks g c =
    let lens = c.args.lens.now in
    let mid = c.loop-n.lens in
    let n : NtId = record { 0 = c.loop-n.n } in
    λ d reached. to_known (g.L.Lens.has_mark lens) (g.L.Lens.has_mark mid) (g.L.Lens.same_mark lens) (g.L.Lens.same_mark mid) (g.L.Lens.is_for lens) (g.L.Lens.is_for mid) (g.L.Lens.is_plain lens) (g.L.Lens.is_plain mid) c.loop-n.invariant.stays c.args.grammar.now
    g.L.Mark.Ord.cmp n (length c.args.leaders.now) (get_or c.loop-n.marks c.loop-n.n d) (c.loop-n.invariant.left n (omega arith) (omega (arith, c.len-n-end.ensures.value, c.loop-n-test.true)) d reached)

pub loop-n-preserved : goal.loop-n-preserved
loop-n-preserved g c =
    let inv = c.loop-n.invariant in
    let grammar = c.args.grammar.now in
    let lens = c.args.lens.now in
    let mid = c.loop-n.lens in
    let new = c.leaders_at.new.lens in
    let bank = c.leaders_at.new.bank in
    let n : NtId = record { 0 = c.loop-n.n } in
    let k = c.args.size in
    let same = g.L.Lens.same_mark lens in
    let plain = g.L.Lens.is_plain lens in
    let has = g.L.Lens.has_mark lens in
    let cmp = g.L.Mark.Ord.cmp in
    let sets = c.loop-n.marks in
    let sets' = c.leaders_at.new.marks in
    let ids = c.in_ok-ids.ids in
    let call = c.in_ok-ids.ensures in
    let back : Stays (g.L.Lens.has_mark mid) has (g.L.Lens.same_mark mid) same (g.L.Lens.is_for mid) (g.L.Lens.is_for lens) (g.L.Lens.is_plain mid) plain =
    Stays-sym has (g.L.Lens.has_mark mid) same (g.L.Lens.same_mark mid) (g.L.Lens.is_for lens) (g.L.Lens.is_for mid) plain (g.L.Lens.is_plain mid) inv.stays in
    let mine = λ (reached : Reaches grammar start n). to_list (g.L.Lens.has_mark mid) has (g.L.Lens.same_mark mid) same (g.L.Lens.is_for mid) (g.L.Lens.is_for lens) (g.L.Lens.is_plain mid) plain back grammar bank n k ids (call.leaders reached) in
    let here = λ (d : BTreeSet g.row.L-Mark.Denot) (reached : Reaches grammar start n).
    to_known (g.L.Lens.has_mark mid) has (g.L.Lens.same_mark mid) same (g.L.Lens.is_for mid) (g.L.Lens.is_for lens) (g.L.Lens.is_plain mid) plain back grammar cmp n k (get_or sets' n.0 d) (call.marks d reached) in
    let looks : LooksAt grammar same plain n k (g.L.Lens.looked mid) (g.L.Lens.looked new) = record {
      terms = call.looks.terms;
      candidates = λ reached. to_candidates (g.L.Lens.has_mark mid) has (g.L.Lens.same_mark mid) same (g.L.Lens.is_for mid) (g.L.Lens.is_for lens) (g.L.Lens.is_plain mid) plain back grammar n k call.looks.terms (call.looks.candidates reached);
      none = call.looks.none;
      looks = call.looks.looks;
    } in
    record {
      kept = Keeps-trans c.args.bank.now c.loop-n.bank bank inv.kept call.kept;
      count = ap length c.in_ok-push.ensures.ok ∙ length_push c.loop-n.level ids ∙ ap (λ i. i + 1) inv.count;
      lists = leaders_more grammar same c.loop-n.bank bank call.kept k c.loop-n.level c.push.new.self n ids (sym inv.count) inv.lists mine c.in_ok-push.ensures.ok;
      done = known_more grammar has same cmp n sets sets' call.others k inv.done here;
      left = λ m h l. known_elsewhere grammar has same cmp n sets sets' call.others m (length c.args.leaders.now) (λ e. omega arith) (inv.left m (omega arith) l);
      looks = looks_more grammar same plain k n (g.L.Lens.looked lens) (g.L.Lens.looked mid) (g.L.Lens.looked new) inv.looks looks;
      fits = call.bank;
      stays = Stays-trans has (g.L.Lens.has_mark mid) (g.L.Lens.has_mark new) same (g.L.Lens.same_mark mid) (g.L.Lens.same_mark new) (g.L.Lens.is_for lens) (g.L.Lens.is_for mid) (g.L.Lens.is_for new) plain (g.L.Lens.is_plain mid) (g.L.Lens.is_plain new) inv.stays call.meaning;
    }

pub returns-clause-looks : goal.returns-clause-looks
returns-clause-looks g c =
    let grammar = c.args.grammar.now in
    let looks = c.loop-n.invariant.looks in
    let all : c.loop-n.n ≡ length grammar = omega (arith, c.len-n-end.ensures.value, c.loop-n-test.false) in
    record {
      count = sum_by length looks.lists;
      counted = record {
        lists = looks.lists;
        are = subst (λ m. AreCandidateLists grammar (g.L.Lens.same_mark c.args.lens.now) (g.L.Lens.is_plain c.args.lens.now) c.args.size m looks.lists) all looks.are;
        is = refl;
      };
      looks = looks.looks;
    }
