-- The names of an accepted text come from its symbols.
use Rattle.std.proofs.Common.{ℕ, ◌+◌, Bool, true, false, Option, Some, None, Result, Ok, Err, List, [], ◌∷◌, map, length}
use Rattle.std.specs.Prelude.{if◌then◌else◌, All}
use Rattle.std.specs.List.{flat_map, enumerate_from}
use Rattle.std.proofs.lemmas.List.Elements.{All-nil, All-cons, All-head, All-tail, All-append, All-map, All-weaker}
use Rattle.sig_core.specs.declared.signature.Constructor.{Constructor}
use Rattle.sig_core.specs.declared.signature.Relation.{Relation}
use Rattle.sig_core.specs.Signatures.{Declarations}
use Rattle.sexpr_core.specs.declared.form.Sexpr.{Sexpr}
use Rattle.sexpr_core.specs.Access.{parts_of, item_of}
use Rattle.sexpr_core.proofs.Respelled.{read_spellable}
use Rattle.problem_core.specs.Problems.{Parts}
use Rattle.syntax_core.specs.declared.commands.Head.{Head}
use Rattle.syntax_core.specs.declared.commands.Head.TheVariants as head
use Rattle.syntax_core.specs.declared.fault.Fault.{Fault}
use Rattle.syntax_core.specs.Shapes.{refusal}
use Rattle.syntax_core.specs.Syntax.{functions_from, functions_of, items_at, pattern_of}
use Rattle.name_core.specs.States.{State, Wanted, start}
use Rattle.sort_core.specs.Relations.{relation_of}
use Rattle.making_core.specs.Making.{added, constructor_of, constructors_of, with_types}
use Rattle.elab_core.specs.Judging as judging
use Rattle.state_core.specs.Commands.{Outcome, judged, outcome_of, refused, stands, step}
use Rattle.elab_core.specs.Judging.{Judges, after, closed, stated_by, too_long, spelled, misspelled}
use Rattle.answer_laws.specs.Names.{CanBeSpelled, HasSpelledNames}
use Rattle.run_laws.specs.Laws.{JudgedNamesAreSpelled}
use Rattle.run_laws.proofs.SpelledForms.{IsNamed, each_named, item_named, items_named, name_spelled, parts_named}

abbrev IsSpelledConstructor : Constructor → Type 0
IsSpelledConstructor c = CanBeSpelled c.name

abbrev IsSpelledRelation : Relation → Type 0
IsSpelledRelation r = CanBeSpelled r.name

-- Constructors.

of_group : (sig : Declarations) (group : ℕ × Sexpr) → IsNamed group.1 → All IsSpelledConstructor (constructors_of sig group)
of_group sig (owner, group) h =
    All-map IsSpelledConstructor (λ form. constructor_of sig owner (pattern_of form)) (parts_of group) (All-weaker IsNamed (λ form. IsSpelledConstructor (constructor_of sig owner (pattern_of form))) name_spelled (parts_of group) (parts_named group h))

of_groups : (sig : Declarations) (owner : ℕ) (groups : List Sexpr) → All IsNamed groups → All IsSpelledConstructor (flat_map (constructors_of sig) (enumerate_from owner groups))
of_groups sig owner [] h = All-nil IsSpelledConstructor
of_groups sig owner (group ∷ groups) h =
    All-append IsSpelledConstructor (constructors_of sig (owner, group)) (flat_map (constructors_of sig) (enumerate_from (owner + 1) groups))
    (of_group sig (owner, group) (All-head IsNamed group groups h)) (of_groups sig (owner + 1) groups (All-tail IsNamed group groups h))

-- Relations.

of_functions : (sig : Declarations) (declarations definitions : List Sexpr) → All IsNamed declarations → All IsSpelledRelation (map (relation_of sig) (functions_from declarations definitions))
of_functions sig [] definitions h = All-nil IsSpelledRelation
of_functions sig (d ∷ ds) [] h = All-nil IsSpelledRelation
of_functions sig (d ∷ ds) (e ∷ es) h =
    All-cons IsSpelledRelation _ (map (relation_of sig) (functions_from ds es))
    (item_named 0 d (All-head IsNamed d ds h)).named (of_functions sig ds es (All-tail IsNamed d ds h))

-- What has been stated.

added_spelled : (s : State) (h : Head) (form : Sexpr) → IsNamed form → HasSpelledNames s.signature → HasSpelledNames (added s h form).signature
added_spelled s head.SetInfo form named h = h
added_spelled s head.DeclareTermTypes form named h = record {
  constructors = All-append IsSpelledConstructor s.signature.constructors _ h.constructors
      (of_groups (with_types s.signature form) (length s.signature.types) (items_at 2 form) (items_named 2 form named));
  relations = h.relations;
}
added_spelled s head.DefineFunsRec form named h = record {
  constructors = h.constructors;
  relations = All-append IsSpelledRelation s.signature.relations (map (relation_of s.signature) (functions_of form)) h.relations
      (of_functions s.signature (parts_of (item_of 1 form)) (parts_of (item_of 2 form)) (parts_named (item_of 1 form) (item_named 1 form named)));
}
added_spelled s head.SynthFun form named h = h
added_spelled s head.Constraint form named h = h
added_spelled s head.CheckSynth form named h = h

abbrev IsSpelledOutcome : Outcome → Type 0
IsSpelledOutcome (stands s) = HasSpelledNames s.signature
IsSpelledOutcome (refused fault) = Unit {0}

abbrev IsSpelledResult : Result Parts Fault → Type 0
IsSpelledResult (Ok problem) = HasSpelledNames problem.signature
IsSpelledResult (Err fault) = Unit {0}

judged_spelled : (s : State) (form : Sexpr) (result : Result Head Fault) → IsNamed form → HasSpelledNames s.signature → IsSpelledOutcome (outcome_of s form result)
judged_spelled s form (Ok h) named names = added_spelled s h form named names
judged_spelled s form (Err fault) named names = tt

step_spelled : (outcome : Outcome) (form : Sexpr) → IsNamed form → IsSpelledOutcome outcome → IsSpelledOutcome (step outcome form)
step_spelled (stands s) form named names = judged_spelled s form (judged s form) named names
step_spelled (refused fault) form named names = tt

after_spelled : (outcome : Outcome) (forms : List Sexpr) → All IsNamed forms → IsSpelledOutcome outcome → IsSpelledOutcome (after outcome forms)
after_spelled outcome [] named names = names
after_spelled outcome (form ∷ forms) named names =
    after_spelled (step outcome form) forms (All-tail IsNamed form forms named) (step_spelled outcome form (All-head IsNamed form forms named) names)

stated_spelled : (end : ℕ) (s : State) (wanted : Option Wanted) → HasSpelledNames s.signature → IsSpelledResult (stated_by end s wanted)
stated_spelled end s None names = tt
stated_spelled end s (Some wanted) names = by s.is_over where
  by : (b : Bool) → IsSpelledResult (if b then Ok (judging.parts_of s wanted) else Err (refusal end 60))
  by true = names
  by false = tt

closed_spelled : (end : ℕ) (outcome : Outcome) → IsSpelledOutcome outcome → IsSpelledResult (closed end outcome)
closed_spelled end (stands s) names = stated_spelled end s s.wanted names
closed_spelled end (refused fault) names = tt

start_spelled : HasSpelledNames start.signature
start_spelled = record { constructors = All-nil IsSpelledConstructor; relations = All-nil IsSpelledRelation }

judges_spelled : {text : List ℕ} {result : Result Parts Fault} → Judges text result → IsSpelledResult result
judges_spelled (too_long long) = tt
judges_spelled {text = text} (spelled forms short is) =
    closed_spelled (length text) (after (stands start) forms) (after_spelled (stands start) forms (each_named (read_spellable text forms is)) start_spelled)
judges_spelled (misspelled forms place reason short fault complete) = tt

pub judged_names_are_spelled : JudgedNamesAreSpelled
judged_names_are_spelled bytes problem judges = judges_spelled judges
