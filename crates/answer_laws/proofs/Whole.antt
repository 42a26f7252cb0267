-- The text of an answer spells forms that are read as the answer.
use Rattle.std.proofs.Common.{◌≡◌, ℕ, zero, suc, ◌+◌, ◌<◌, ◌≤◌, ◌^◌, Bool, true, ◌==◌, List, [], ◌∷◌, ◌++◌, length, get_or, Some, None, Result, Ok, All, Contains, if◌then◌else◌, refl, sym, ap, ap₂, subst, ◌∙◌, arith, append_assoc, append-nil}
use Rattle.std.specs.List.{AllZip}
use Rattle.std.specs.Option.{ok_or}
use Rattle.std.proofs.lemmas.Bool.Decides.{nat_tests}
use Rattle.std.proofs.lemmas.Grind.{flat_map-append}
use Rattle.std.proofs.lemmas.List.{get_or_at, length-append, length_push}
use Rattle.std.proofs.lemmas.List.Elements.{All-contains_itself}
use Rattle.std.proofs.lemmas.Option.{slice_get-get_or}
use Rattle.sig_core.specs.declared.ids.TypeId.{TypeId}
use Rattle.sig_core.specs.Signatures.{Declarations}
use Rattle.sig_core.specs.WellFormed.{IsWellFormed}
use Rattle.sexpr_core.specs.declared.form.Sexpr.{Sexpr}
use Rattle.sexpr_core.specs.Respelling.{AreSpellable}
use Rattle.sexpr_core.specs.Respelling as able
use Rattle.sexpr_core.specs.Spelling.{Spelled, blank, nothing}
use Rattle.sexpr_core.specs.Texts.{form_text}
use Rattle.sexpr_core.proofs.Respelled.{EachAgain, each_again}
use Rattle.term_core.specs.declared.tree.Tree.{Tree}
use Rattle.term_core.specs.Terms.{con_of, kids_of, size, IsSubterm, itself, below}
use Rattle.term_core.specs.Typings.{HasType}
use Rattle.term_core.proofs.Parts.{rolled, size_of_child}
use Rattle.term_core.proofs.Typing.{made_of}
use Rattle.deriv_core.specs.Steps.{TreeStep}
use Rattle.answer_core.specs.declared.answer.AnswerFault.{AnswerFault}
use Rattle.answer_core.specs.declared.kinds.Due.{Due}
use Rattle.answer_core.specs.declared.kinds.Due.TheVariants as due
use Rattle.answer_core.specs.declared.kinds.Kind.TheVariants as kind
use Rattle.answer_core.specs.AnswerText.{derived_line, node_line, step_line}
use Rattle.answer_core.specs.Readings as readings
use Rattle.answer_core.specs.Readings.{Told, TreeAnswer, answer_with, fault, form_reading, reading, reading_then, whole_answer}
use Rattle.answer_core.specs.Shapes.{may_come}
use Rattle.answer_laws.specs.Answers.{IsAnswerTold, IsStepTold, SpellsAll, text_of_answer}
use Rattle.answer_laws.specs.Laws.{AnswersReadBack}
use Rattle.answer_laws.specs.Names.{HasSpelledNames}
use Rattle.answer_laws.proofs.Counting.{few_nodes}
use Rattle.answer_laws.proofs.Forms.{AreSame, Same, begins, ends}
use Rattle.answer_laws.proofs.Lines.{derived_form, derived_spelled, derived_written, each_spelled, heading_forms, heading_spelled, heading_written, line, lines, lines_written, node_form, node_spelled, node_written, numbered_forms, size_form, step_form, step_spelled, step_written, term_line_form, version_form}
use Rattle.answer_laws.proofs.NodeLines.{node_taken, places_below}
use Rattle.answer_laws.proofs.Places.{IsEarlier, child_earlier, node_placed}
use Rattle.answer_laws.proofs.StepLines.{IsTold, step_taken}
use Rattle.answer_laws.proofs.Taken.{after_term, after_version, at_derived, at_nodes, at_steps, derived_taken, size_taken, term_taken, version_taken}

-- lines spell their forms, places aside
pub lines_spelled : (forms : List Sexpr) → EachAgain 200 forms → (place : ℕ) → (others : List Sexpr) × (end : ℕ) × Spelled 200 place (lines forms) others end [] × AreSame others forms
lines_spelled [] each place = ([], place, nothing 200 place [], refl)
lines_spelled (form ∷ forms) each place =
    let text : List ℕ = form_text form in
    let more = lines_spelled forms each.1 (place + length text + 1) in
    let after = blank 200 (place + length text) 10 (lines forms) more.0 more.1 [] refl more.2 in
    let here = each.0 place (10 ∷ lines forms) more.0 more.1 [] refl refl after in
    (here.0 ∷ more.0, more.1, subst (λ bytes. Spelled 200 place bytes (here.0 ∷ more.0) more.1 []) (sym (append_assoc text (10 ∷ []) (lines forms))) here.1, ap₂ (λ f fs. f ∷ fs) here.2 more.3)

-- the forms of an answer, and their text

abbrev pub answer_forms : Declarations → TreeAnswer → List Sexpr
answer_forms sig answer =
    heading_forms sig answer.term ++ (numbered_forms (node_form sig answer.nodes) 0 answer.nodes ++ (numbered_forms (step_form sig answer.nodes) 0 answer.steps ++ (numbered_forms derived_form 0 answer.derived ++ [])))

answer_written : (sig : Declarations) (answer : TreeAnswer) → text_of_answer sig answer ≡ lines (answer_forms sig answer)
answer_written sig answer =
    let heads = heading_forms sig answer.term in
    let nodes = numbered_forms (node_form sig answer.nodes) 0 answer.nodes in
    let steps = numbered_forms (step_form sig answer.nodes) 0 answer.steps in
    let last = numbered_forms derived_form 0 answer.derived in
    ap₂ (λ x y. x ++ y)
    (ap₂ (λ x y. x ++ y)
    (ap₂ (λ x y. x ++ y) (heading_written sig answer.term) (lines_written (node_line sig answer.nodes) (node_form sig answer.nodes) (node_written sig answer.nodes) 0 answer.nodes))
    (lines_written (step_line sig answer.nodes) (step_form sig answer.nodes) (step_written sig answer.nodes) 0 answer.steps))
    (lines_written derived_line derived_form derived_written 0 answer.derived)
    ∙ sym (four_parts heads nodes steps last)
  where
    four_parts : (a b c d : List Sexpr) → lines (a ++ (b ++ (c ++ (d ++ [])))) ≡ lines a ++ lines b ++ lines c ++ lines d
    four_parts a b c d =
        flat_map-append line a (b ++ (c ++ (d ++ []))) ∙ ap (λ t. lines a ++ t) (flat_map-append line b (c ++ (d ++ [])) ∙ ap (λ t. lines b ++ t) (flat_map-append line c (d ++ []) ∙ ap (λ t. lines c ++ lines t) (append-nil d)))
        ∙ sym (append_assoc (lines a) (lines b) (lines c ++ lines d)) ∙ sym (append_assoc (lines a ++ lines b) (lines c) (lines d))

-- the nodes of a term are terms of the signature, and no larger

kid_typed : (sig : Declarations) (kids : List Tree) (args : List TypeId) → AllZip (λ kid u. HasType sig u kid) kids args → (k : ℕ) (kid : Tree) → k < length kids → get_or kids k kid ≡ kid → (u : TypeId) × HasType sig u kid
kid_typed sig [] args all k kid h e = absurd (omega (arith, h))
kid_typed sig (t ∷ kids) [] all k kid h e = absurd all
kid_typed sig (t ∷ kids) (u ∷ args) all zero kid h e = (u, subst (HasType sig u) e all.0)
kid_typed sig (t ∷ kids) (u ∷ args) all (suc k) kid h e = kid_typed sig kids args all.1 k kid (omega (arith, h)) e

subterm_typed : (sig : Declarations) {s t : Tree} → IsSubterm s t → (u : TypeId) → HasType sig u t → (v : TypeId) × HasType sig v s
subterm_typed sig itself u h = (u, h)
subterm_typed sig (below {t = t} {kid = kid} child inside) u h =
    let made = made_of sig u (con_of t) (kids_of t) (subst (HasType sig u) (sym (rolled t)) h) in
    let typed = kid_typed sig (kids_of t) made.constructor.args made.children child.0 kid child.1 child.2 in
    subterm_typed sig inside typed.0 typed.1

subterm_small : {s t : Tree} → IsSubterm s t → size s ≤ size t
subterm_small itself = omega arith
subterm_small (below {t = t} {kid = kid} child inside) = omega (arith, subterm_small inside, size_of_child t kid child)

-- the item after the first ones, in its place
in_place : {X : Type 0} (P : X → Type 0) (items before after : List X) (x : X) → items ≡ before ++ x ∷ after → All P items → P x
in_place P items before after x split all =
    subst P (ap (λ xs. get_or xs (length before) x) split ∙ get_or_at before x after x (length before) refl) (all (length before) x (omega (arith, ap length split, length-append before (x ∷ after))))

below_all : {X : Type 0} (items before after : List X) (x : X) → items ≡ before ++ x ∷ after → length before < length items
below_all items before after x split = omega (arith, ap length split, length-append before (x ∷ after))

module _ (sig : Declarations) (formed : IsWellFormed sig) (names : HasSpelledNames sig) (answer : TreeAnswer) (told : IsAnswerTold sig answer) where
  earlier_kids : (before after : List Tree) (t : Tree) → answer.nodes ≡ before ++ t ∷ after → All (IsEarlier answer.nodes before) (kids_of t)
  earlier_kids before after t split k d h = child_earlier answer.term answer.nodes before after t told.nodes split (get_or (kids_of t) k d) (All-contains_itself (kids_of t) k d h)

  -- of a step that is told
  step_fit : (s : TreeStep) → IsStepTold sig answer.nodes s → IsTold sig answer.nodes s
  step_fit s step =
      let at = node_placed answer.nodes s.node told.nodes.ascending step.listed in record {
        relation = get_or sig.relations s.relation.0 (record { name = []; params = [] });
        known = slice_get-get_or sig.relations s.relation.0 (record { name = []; params = [] }) step.known;
        node_at = at;
        rule = step.rule;
        premises = step.premises;
        fit = record {
          place = omega (arith, at.within, few_nodes answer.term answer.nodes told.nodes, told.small);
          rule = omega (arith, step.rule);
          values = step.values;
          premises = λ k d h. omega (arith, step.premises k d h);
        };
      }

  -- it can be spelled

  spelled_nodes : (forms : List Sexpr) → AreSpellable 200 forms → AreSpellable 200 (numbered_forms (node_form sig answer.nodes) 0 answer.nodes ++ forms)
  spelled_nodes forms more = each_spelled (node_form sig answer.nodes) answer.nodes [] answer.nodes forms refl one more where
    one : (before : List Tree) (t : Tree) (after : List Tree) (later : List Sexpr) → answer.nodes ≡ before ++ t ∷ after → AreSpellable 200 later → AreSpellable 200 (node_form sig answer.nodes (length before) t ∷ later)
    one before t after later split rest =
        let few = below_all answer.nodes before after t split in
        node_spelled sig answer.nodes (length before) t later names (omega (arith, few, few_nodes answer.term answer.nodes told.nodes, told.small))
        (places_below sig answer.nodes before (kids_of t) (earlier_kids before after t split) (10 ^ 64) (omega (arith, few, few_nodes answer.term answer.nodes told.nodes, told.small))) rest

  spelled_steps : (forms : List Sexpr) → AreSpellable 200 forms → AreSpellable 200 (numbered_forms (step_form sig answer.nodes) 0 answer.steps ++ forms)
  spelled_steps forms more = each_spelled (step_form sig answer.nodes) answer.steps [] answer.steps forms refl one more where
    one : (before : List TreeStep) (s : TreeStep) (after : List TreeStep) (later : List Sexpr) → answer.steps ≡ before ++ s ∷ after → AreSpellable 200 later → AreSpellable 200 (step_form sig answer.nodes (length before) s ∷ later)
    one before s after later split rest =
        let few = below_all answer.steps before after s split in
        step_spelled sig answer.nodes (length before) s later names (omega (arith, few, told.few_steps)) (step_fit s (in_place (IsStepTold sig answer.nodes) answer.steps before after s split told.steps)).fit rest

  spelled_derived : (forms : List Sexpr) → AreSpellable 200 forms → AreSpellable 200 (numbered_forms derived_form 0 answer.derived ++ forms)
  spelled_derived forms more = each_spelled derived_form answer.derived [] answer.derived forms refl one more where
    one : (before : List ℕ) (step : ℕ) (after : List ℕ) (later : List Sexpr) → answer.derived ≡ before ++ step ∷ after → AreSpellable 200 later → AreSpellable 200 (derived_form (length before) step ∷ later)
    one before step after later split rest =
        let few = below_all answer.derived before after step split in
        let there = in_place (λ n. n < length answer.steps) answer.derived before after step split told.derived in
        derived_spelled (length before) step later (omega (arith, few, told.few_derived)) (omega (arith, there, told.few_steps)) rest

  answer_spelled : AreSpellable 200 (answer_forms sig answer)
  answer_spelled = heading_spelled sig answer.term _ names told.nests (omega (arith, told.small)) (spelled_nodes _ (spelled_steps _ (spelled_derived [] (able.nothing 200))))

  -- it is read

  module _ (end : ℕ) where
    abbrev read : List Sexpr → Told → Result TreeAnswer AnswerFault
    read forms now = reading sig (length answer.derived) end forms now

    abbrev take_form : Told → Sexpr → Result Told AnswerFault
    take_form now form = form_reading sig (length answer.derived) now form

    read_on : (form : Sexpr) (forms : List Sexpr) (now next : Told) → take_form now form ≡ Ok next → read (form ∷ forms) now ≡ read forms next
    read_on form forms now next e = ap (reading_then (reading sig (length answer.derived) end forms)) e

    -- the forms before the later ones are read
    record ReadsTo (later forms : List Sexpr) (now next : Told) : Type 0 where
      others : List Sexpr
      same : AreSame others later
      is : read forms now ≡ read others next

    one_read : (canonical : Sexpr) (later forms : List Sexpr) (now next : Told) → AreSame forms (canonical ∷ later) → ((form : Sexpr) → Same form canonical → take_form now form ≡ Ok next) → ReadsTo later forms now next
    one_read canonical later forms now next same takes =
        let front = begins forms canonical later same in record {
          others = front.tail;
          same = front.same_tail;
          is = ap (λ fs. read fs now) front.is ∙ read_on front.head front.tail now next (takes front.head front.same_head);
        }

    module _ {X : Type 0} (form_of : ℕ → X → Sexpr) (state : List X → Told) (items : List X)
        (takes : (before : List X) (x : X) (after : List X) → items ≡ before ++ x ∷ after → (form : Sexpr) → Same form (form_of (length before) x) → take_form (state before) form ≡ Ok (state (before ++ x ∷ []))) where
      each_read : (before rest : List X) → items ≡ before ++ rest → (later forms : List Sexpr) → AreSame forms (numbered_forms form_of (length before) rest ++ later) → ReadsTo later forms (state before) (state items)
      each_read before [] split later forms same = record { others = forms; same = same; is = ap (λ xs. read forms (state xs)) (sym (split ∙ append-nil before)) }
      each_read before (x ∷ rest) split later forms same =
          let first = one_read (form_of (length before) x) (numbered_forms form_of (suc (length before)) rest ++ later) forms (state before) (state (before ++ x ∷ [])) same (takes before x rest split) in
          let count : suc (length before) ≡ length (before ++ x ∷ []) = omega (arith, length_push before x) in
          let moved : AreSame first.others (numbered_forms form_of (length (before ++ x ∷ [])) rest ++ later) = subst (λ n. AreSame first.others (numbered_forms form_of n rest ++ later)) count first.same in
          let more = each_read (before ++ x ∷ []) rest (split ∙ sym (append_assoc before (x ∷ []) rest)) later first.others moved in record {
            others = more.others;
            same = more.same;
            is = first.is ∙ more.is;
          }

    -- what may come after the steps so far, and after the constraints' steps so far
    abbrev due_of_steps : List TreeStep → Due
    due_of_steps [] = due.Nodes
    due_of_steps (s ∷ steps) = due.Steps

    abbrev due_of_derived : List ℕ → Due
    due_of_derived [] = due_of_steps answer.steps
    due_of_derived (step ∷ derived) = due.Derived

    step_may : (steps : List TreeStep) (room : Bool) → may_come (due_of_steps steps) room kind.Step ≡ true
    step_may [] room = refl
    step_may (s ∷ steps) room = refl

    derived_may_first : (steps : List TreeStep) → may_come (due_of_steps steps) true kind.Derived ≡ true
    derived_may_first [] = refl
    derived_may_first (s ∷ steps) = refl

    derived_may : (derived : List ℕ) → may_come (due_of_derived derived) true kind.Derived ≡ true
    derived_may [] = derived_may_first answer.steps
    derived_may (step ∷ derived) = refl

    due_steps_more : (steps : List TreeStep) (s : TreeStep) → due.Steps ≡ due_of_steps (steps ++ s ∷ [])
    due_steps_more [] s = refl
    due_steps_more (t ∷ steps) s = refl

    due_derived_more : (derived : List ℕ) (step : ℕ) → due.Derived ≡ due_of_derived (derived ++ step ∷ [])
    due_derived_more [] step = refl
    due_derived_more (k ∷ derived) step = refl

    abbrev steps_state : List TreeStep → Told
    steps_state steps = at_steps (due_of_steps steps) answer.term answer.nodes steps

    abbrev derived_state : List ℕ → Told
    derived_state derived = at_derived (due_of_derived derived) answer.term answer.nodes answer.steps derived

    node_takes : (before : List Tree) (t : Tree) (after : List Tree) → answer.nodes ≡ before ++ t ∷ after → (form : Sexpr) → Same form (node_form sig answer.nodes (length before) t)
        → take_form (at_nodes answer.term before) form ≡ Ok (at_nodes answer.term (before ++ t ∷ []))
    node_takes before t after split form same =
        let few = below_all answer.nodes before after t split in
        let there : Contains answer.nodes t = in_place (Contains answer.nodes) answer.nodes before after t split (All-contains_itself answer.nodes) in
        let sub : IsSubterm t answer.term = (told.nodes.subterms t).0 there in
        let typed = subterm_typed sig sub told.typed.0 told.typed.1 in
        node_taken sig (length answer.derived) answer.term answer.nodes before t typed.0 form formed typed.1 (omega (arith, subterm_small sub, told.small)) (omega (arith, few, few_nodes answer.term answer.nodes told.nodes, told.small)) (earlier_kids before after t split) same

    step_takes : (before : List TreeStep) (s : TreeStep) (after : List TreeStep) → answer.steps ≡ before ++ s ∷ after → (form : Sexpr) → Same form (step_form sig answer.nodes (length before) s)
        → take_form (steps_state before) form ≡ Ok (steps_state (before ++ s ∷ []))
    step_takes before s after split form same =
        let few = below_all answer.steps before after s split in
        let step = in_place (IsStepTold sig answer.nodes) answer.steps before after s split told.steps in
        step_taken sig (length answer.derived) answer.term answer.nodes (due_of_steps before) before s form formed (step_fit s step) (omega (arith, few, told.few_steps)) (step_may before) same
        ∙ ap (λ now. Ok (at_steps now answer.term answer.nodes (before ++ s ∷ []))) (due_steps_more before s)

    derived_takes : (before : List ℕ) (step : ℕ) (after : List ℕ) → answer.derived ≡ before ++ step ∷ after → (form : Sexpr) → Same form (derived_form (length before) step)
        → take_form (derived_state before) form ≡ Ok (derived_state (before ++ step ∷ []))
    derived_takes before step after split form same =
        let few = below_all answer.derived before after step split in
        let there = in_place (λ n. n < length answer.steps) answer.derived before after step split told.derived in
        derived_taken sig (length answer.derived) (due_of_derived before) answer.term answer.nodes answer.steps before step form (derived_may before) few (omega (arith, few, told.few_derived)) there (omega (arith, there, told.few_steps)) same
        ∙ ap (λ now. Ok (at_derived now answer.term answer.nodes answer.steps (before ++ step ∷ []))) (due_derived_more before step)

    -- what is told in the end
    in_the_end : whole_answer (length answer.derived) (derived_state answer.derived) ≡ Some answer
    in_the_end =
        ap (λ b. if b then answer_with (derived_state answer.derived) (Some answer.term) (Some (size answer.term)) else None) (same_number (length answer.derived))
        ∙ ap (λ n. Some (record answer { size = n })) (sym told.size_is)
      where
        same_number : (n : ℕ) → (n == n) ≡ true
        same_number n = grind (arith, nat_tests)

    pub answer_read : (forms : List Sexpr) → AreSame forms (answer_forms sig answer) → read forms readings.nothing ≡ Ok answer
    answer_read forms same =
        let t = answer.term in
        let after_size = numbered_forms (node_form sig answer.nodes) 0 answer.nodes ++ (numbered_forms (step_form sig answer.nodes) 0 answer.steps ++ (numbered_forms derived_form 0 answer.derived ++ [])) in
        let first = one_read version_form (term_line_form sig t ∷ size_form (size t) ∷ after_size) forms readings.nothing after_version same (version_taken sig (length answer.derived)) in
        let second = one_read (term_line_form sig t) (size_form (size t) ∷ after_size) first.others after_version (after_term t) first.same
        (λ form e. term_taken sig (length answer.derived) form told.typed.0 t formed told.typed.1 (omega (arith, told.nests)) e) in
        let third = one_read (size_form (size t)) after_size second.others (after_term t) (at_nodes t []) second.same (λ form e. size_taken sig (length answer.derived) form t (omega (arith, told.small)) e) in
        let nodes = each_read (node_form sig answer.nodes) (at_nodes t) answer.nodes node_takes [] answer.nodes refl
        (numbered_forms (step_form sig answer.nodes) 0 answer.steps ++ (numbered_forms derived_form 0 answer.derived ++ [])) third.others third.same in
        let steps = each_read (step_form sig answer.nodes) steps_state answer.steps step_takes [] answer.steps refl (numbered_forms derived_form 0 answer.derived ++ []) nodes.others nodes.same in
        let last = each_read derived_form derived_state answer.derived derived_takes [] answer.derived refl [] steps.others steps.same in
        first.is ∙ second.is ∙ third.is ∙ nodes.is ∙ steps.is ∙ last.is ∙ ap (λ fs. read fs (derived_state answer.derived)) (ends last.others last.same) ∙ ap (λ o. ok_or o (fault 1 end)) in_the_end

  pub answer_reads_back : SpellsAll (text_of_answer sig answer) (λ forms. (end : ℕ) → reading sig (length answer.derived) end forms readings.nothing ≡ Ok answer)
  answer_reads_back =
      let made = lines_spelled (answer_forms sig answer) (each_again answer_spelled) 0 in
      (made.0, (made.1, subst (λ text. Spelled 200 0 text made.0 made.1 []) (sym (answer_written sig answer)) made.2), λ end. answer_read end made.0 made.3)

pub answers_read_back : AnswersReadBack
answers_read_back sig formed names answer told = answer_reads_back sig formed names answer told
