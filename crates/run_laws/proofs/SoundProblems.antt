-- The parts of an accepted text fit together.
use Rattle.std.proofs.Common.{◌≡◌, ℕ, Bool, true, false, not, ◌&&◌, Option, Some, None, is_some, Result, Ok, Err, List, [], ◌∷◌, ◌++◌, length, refl, sym, ap, subst, ◌∙◌, arith}
use Rattle.std.specs.Prelude.{if◌then◌else◌, All}
use Rattle.std.specs.Option.{option_map_or}
use Rattle.std.specs.List.{flat_map}
use Rattle.std.proofs.lemmas.List.{append-nil}
use Rattle.std.proofs.lemmas.List.Elements.{All-nil, All-head, All-tail}
use Rattle.sig_core.specs.WellFormed.{relation_names}
use Rattle.sexpr_core.specs.declared.form.Sexpr.{Sexpr}
use Rattle.sexpr_core.specs.Access.{place_of, symbol_of}
use Rattle.sexpr_core.specs.Sizes.{IsSmall}
use Rattle.sig_core.specs.declared.ids.TypeId.{TypeId}
use Rattle.sexpr_core.proofs.Small.{spelled_small}
use Rattle.problem_core.specs.Problems.{Parts}
use Rattle.problem_core.specs.Soundness.{IsSound, IsSoundConstraint}
use Rattle.syntax_core.specs.declared.commands.Head.{Head}
use Rattle.syntax_core.specs.declared.commands.Head.TheVariants as head
use Rattle.syntax_core.specs.declared.fault.Fault.{Fault}
use Rattle.syntax_core.specs.declared.syntax.Function.{Function}
use Rattle.syntax_core.specs.Commands.{head_named}
use Rattle.syntax_core.specs.Shapes.{first_item, refusal}
use Rattle.syntax_core.specs.Syntax.{functions_of, items_at}
use Rattle.name_core.specs.Faults.{first, found, found_from, shapes}
use Rattle.name_core.specs.Limits.{declaration_limits, limits}
use Rattle.name_core.specs.Names.{declaration_names, names}
use Rattle.name_core.specs.States.{State, Wanted, start}
use Rattle.sort_core.specs.Relations.{declared_with}
use Rattle.sort_core.specs.Sorts.{declaration_faults, functions_faults}
use Rattle.state_core.specs.Taking.{IsJudgedAs}
use Rattle.state_core.specs.Commands.{Outcome, command_fault, faults_in, flow, judged, judged_from, may_come, outcome_of, refused, stands, step, word_fault}
use Rattle.elab_core.specs.Judging.{Judges, after, closed, parts_of, stated_by, too_long, spelled, misspelled}
use Rattle.making_core.specs.Making.{added}
use Rattle.making_core.specs.Soundness.{IsSoundState, IsSoundWanted}
use Rattle.making_core.proofs.Declaring.{relations_fit}
use Rattle.making_core.proofs.Fits.{none-left, none-right}
use Rattle.state_core.proofs.FunctionsTaken.{functions_taken}
use Rattle.state_core.proofs.GrammarSoundness.{wanted_taken}
use Rattle.state_core.proofs.Groupings.{as_many_types, of_word}
use Rattle.state_core.proofs.Growing.{terms_taken}
use Rattle.state_core.proofs.Soundings.{constraints_taken}
use Rattle.making_core.proofs.Terms.{terms_fit}
use Rattle.run_laws.specs.Laws.{JudgedProblemsAreSound}
use Rattle.run_laws.proofs.FormedSignatures.{functions_formed, terms_formed}

both_by : (a b : Bool) → (a && b) ≡ true → (a ≡ true) × (b ≡ true)
both_by true b h = (refl, h)
both_by false b h = absurd (cc)

still_wanted : (s : State) (wanted : Option Wanted) → is_some wanted ≡ true → IsSoundWanted s.signature s.constraints s.is_over wanted → IsSoundWanted s.signature s.constraints true wanted
still_wanted s None some h = absurd (cc)
still_wanted s (Some wanted) some h = h

-- Commands without faults keep what has been stated sound.

-- types and constructors
terms_sound : (s : State) (form : Sexpr) → IsJudgedAs s head.DeclareTermTypes form → IsSoundState s → first (shapes form) ≡ None → first (faults_in s head.DeclareTermTypes form) ≡ None →
    IsSoundState (added s head.DeclareTermTypes form)
terms_sound s form judged_as sound shape fine =
    let L : List Fault = limits s head.DeclareTermTypes form in
    let N : List Fault = names s head.DeclareTermTypes form in
    let both : first (L ++ N) ≡ None = none-left (L ++ N) [] (none-left (L ++ N ++ []) [] fine) in
    let same : length (items_at 2 form) ≡ length (items_at 1 form) = as_many_types form (of_word s head.DeclareTermTypes form judged_as shape fine) in
    let fit = terms_fit s.signature form sound.signature (omega (arith, same)) (none-left L N both) (none-right L N both) in
    (terms_taken s (added s head.DeclareTermTypes form) form judged_as.come sound fine refl (terms_formed s.signature form sound.signature fit)).sound

-- relations and rules
functions_sound : (s : State) (form : Sexpr) → IsJudgedAs s head.DefineFunsRec form → IsSoundState s → IsSmall form → first (shapes form) ≡ None → first (faults_in s head.DefineFunsRec form) ≡ None →
    IsSoundState (added s head.DefineFunsRec form)
functions_sound s form judged_as sound small shape fine =
    let sig = s.signature in
    let functions : List Function = functions_of form in
    let L : List Fault = limits s head.DefineFunsRec form in
    let N : List Fault = names s head.DefineFunsRec form in
    let S : List Fault = functions_faults (declared_with sig functions) functions in
    let D : List Fault = flat_map declaration_faults functions in
    let sorted : first (L ++ N ++ S) ≡ None = none-left (L ++ N ++ S) (flow s head.DefineFunsRec form) fine in
    let front : first (L ++ N) ≡ None = none-left (L ++ N) S sorted in
    let limited : first (found_from (λ n f. declaration_limits n f.declaration) (length sig.relations) functions) ≡ None = none-left _ _ (none-left L N front) in
    let named : first (found (declaration_names sig) functions) ≡ None = none-left _ _ (none-right L N front) in
    let declared : first D ≡ None = none-left D _ (none-right (L ++ N) S sorted) in
    let fit = relations_fit sig sig [] functions (length sig.relations) refl (sym (append-nil (relation_names sig.relations))) refl limited named declared in
    (functions_taken s (added s head.DefineFunsRec form) form judged_as.come sound shape small fine refl (functions_formed sig functions sound.signature fit)).sound

added_sound : (s : State) (h : Head) (form : Sexpr) → IsJudgedAs s h form → IsSoundState s → IsSmall form → first (shapes form) ≡ None → first (faults_in s h form) ≡ None → IsSoundState (added s h form)
added_sound s head.SetInfo form judged_as sound small shape fine = record {
  signature = sound.signature;
  names = sound.names;
  free_names = sound.free_names;
  few_rules = sound.few_rules;
  rules = sound.rules;
  few_constraints = sound.few_constraints;
  wanted = sound.wanted;
}
added_sound s head.DeclareTermTypes form judged_as sound small shape fine = terms_sound s form judged_as sound shape fine
added_sound s head.DefineFunsRec form judged_as sound small shape fine = functions_sound s form judged_as sound small shape fine
added_sound s head.SynthFun form judged_as sound small shape fine =
    (wanted_taken s (added s head.SynthFun form) form judged_as.come sound (of_word s head.SynthFun form judged_as shape fine) fine refl).sound
added_sound s head.Constraint form judged_as sound small shape fine =
    (constraints_taken s (added s head.Constraint form) form (both_by (is_some s.wanted) (not s.is_over) judged_as.come).0 sound fine refl).sound
added_sound s head.CheckSynth form judged_as sound small shape fine = record {
  signature = sound.signature;
  names = sound.names;
  free_names = sound.free_names;
  few_rules = sound.few_rules;
  rules = sound.rules;
  few_constraints = sound.few_constraints;
  wanted = still_wanted s s.wanted (both_by (is_some s.wanted) (not s.is_over) judged_as.come).0 sound.wanted;
}

abbrev IsSoundOutcome : Outcome → Type 0
IsSoundOutcome (stands s) = IsSoundState s
IsSoundOutcome (refused fault) = Unit {0}

abbrev IsSoundResult : Result Parts Fault → Type 0
IsSoundResult (Ok problem) = IsSound problem
IsSoundResult (Err fault) = Unit {0}

-- The form is judged, and what stands then is sound.

came : (s : State) (h : Head) (form : Sexpr) (b : Bool) → may_come s h ≡ b → (if b then first (shapes form ++ faults_in s h form) else Some (refusal (place_of form) 12)) ≡ None →
    (may_come s h ≡ true) × (first (shapes form ++ faults_in s h form) ≡ None)
came s h form true e none = (e, none)
came s h form false e none = absurd (cc)

module _ (s : State) (form : Sexpr) (sound : IsSoundState s) (small : IsSmall form) where
  by_fault : (h : Head) (found : Option Fault) → command_fault s h form ≡ found → judged s form ≡ option_map_or Err (command_fault s h form) (Ok h) → IsSoundOutcome (outcome_of s form (option_map_or Err found (Ok h)))
  by_fault h (Some fault) e is = tt
  by_fault h None e is =
      let taken = came s h form (may_come s h) refl e in
      added_sound s h form (record { come = taken.0; is = is }) sound small (none-left (shapes form) (faults_in s h form) taken.1) (none-right (shapes form) (faults_in s h form) taken.1)

  by_head : (word : Sexpr) (name : List ℕ) (found : Option Head) → head_named name ≡ found → judged s form ≡ word_fault s form word (Some name) →
      IsSoundOutcome (outcome_of s form (option_map_or (λ h. option_map_or Err (command_fault s h form) (Ok h)) found (Err (refusal (place_of word) 11))))
  by_head word name None e is = tt
  by_head word name (Some h) e is =
      by_fault h (command_fault s h form) refl
      (is ∙ ap (λ (o : Option Head). option_map_or (λ h. option_map_or Err (command_fault s h form) (Ok h)) o (Err (refusal (place_of word) 11))) e)

  by_name : (word : Sexpr) (name : Option (List ℕ)) → symbol_of word ≡ name → judged s form ≡ judged_from s form (Some word) → IsSoundOutcome (outcome_of s form (word_fault s form word name))
  by_name word None e is = tt
  by_name word (Some name) e is = by_head word name (head_named name) refl (is ∙ ap (word_fault s form word) e)

  by_word : (word : Option Sexpr) → first_item form ≡ word → IsSoundOutcome (outcome_of s form (judged_from s form word))
  by_word None e = tt
  by_word (Some word) e = by_name word (symbol_of word) refl (ap (judged_from s form) e)

step_sound : (outcome : Outcome) (form : Sexpr) → IsSmall form → IsSoundOutcome outcome → IsSoundOutcome (step outcome form)
step_sound (stands s) form small sound = by_word s form sound small (first_item form) refl
step_sound (refused fault) form small sound = tt

after_sound : (outcome : Outcome) (forms : List Sexpr) → All IsSmall forms → IsSoundOutcome outcome → IsSoundOutcome (after outcome forms)
after_sound outcome [] small sound = sound
after_sound outcome (form ∷ forms) small sound =
    after_sound (step outcome form) forms (All-tail IsSmall form forms small) (step_sound outcome form (All-head IsSmall form forms small) sound)

start_sound : IsSoundState start
start_sound = record {
  signature = record {
    few_types = omega arith;
    few_constructors = omega arith;
    few_relations = omega arith;
    few_args = All-nil _;
    few_params = All-nil _;
    distinct_types = λ i k d less within. absurd (omega (arith, within));
    distinct_constructors = λ i k d less within. absurd (omega (arith, within));
    distinct_relations = λ i k d less within. absurd (omega (arith, within));
    constructors = All-nil _;
    relations = All-nil _;
    rising = λ i k d less within. absurd (omega (arith, within));
  };
  names = record { types = All-nil _; constructors = All-nil _; relations = All-nil _; params = All-nil _ };
  free_names = record { types = All-nil _; relations = All-nil _ };
  few_rules = omega arith;
  rules = All-nil _;
  few_constraints = omega arith;
  wanted = (refl, refl);
}

stated_by_wanted : (end : ℕ) (s : State) (wanted : Wanted) → IsSoundState s → IsSoundWanted s.signature s.constraints s.is_over (Some wanted) → IsSoundResult (stated_by end s (Some wanted))
stated_by_wanted end s wanted sound h = by s.is_over where
  by : (b : Bool) → IsSoundResult (if b then Ok (parts_of s wanted) else Err (refusal end 60))
  by false = tt
  by true = record {
    signature = sound.signature;
    names = sound.names;
    free_names = sound.free_names;
    few_rules = sound.few_rules;
    rules = sound.rules;
    grammar = h.1;
    wanted = h.0;
    few_constraints = sound.few_constraints;
    constraints = subst (λ (t : TypeId). All (IsSoundConstraint s.signature t) s.constraints) (sym h.2) h.3;
  }

stated_sound : (end : ℕ) (s : State) (wanted : Option Wanted) → s.wanted ≡ wanted → IsSoundState s → IsSoundResult (stated_by end s wanted)
stated_sound end s None is sound = tt
stated_sound end s (Some wanted) is sound = stated_by_wanted end s wanted sound (subst (IsSoundWanted s.signature s.constraints s.is_over) is sound.wanted)

closed_sound : (end : ℕ) (outcome : Outcome) → IsSoundOutcome outcome → IsSoundResult (closed end outcome)
closed_sound end (stands s) sound = stated_sound end s s.wanted refl sound
closed_sound end (refused fault) sound = tt

judges_sound : {text : List ℕ} {result : Result Parts Fault} → Judges text result → IsSoundResult result
judges_sound (too_long long) = tt
judges_sound {text = text} (spelled forms short is) =
    closed_sound (length text) (after (stands start) forms) (after_sound (stands start) forms (spelled_small text forms (omega (arith, short)) is) start_sound)
judges_sound (misspelled forms place reason short fault complete) = tt

-- a problem that a text is judged to be is sound
pub judged_problems_are_sound : JudgedProblemsAreSound
judged_problems_are_sound bytes problem judges = judges_sound judges
