use Rattle.std.proofs.Common.{length, ap, ◌∙◌}
use Rattle.syntax_core.specs.Syntax.{functions_of}
use Rattle.name_core.specs.States.{State}
use Rattle.state_core.proofs.FunctionsTaken.{begun, begun_clean, begun_declarations, begun_few, begun_flow_due, begun_names, begun_narrow, begun_numbers, begun_room, begun_rules, begun_sorts_due}
use Rattle.state_core.proofs.stated.StatedParts.put_functions.Goals as goal

pub declare_relations-requires-clause-names : goal.declare_relations-requires-clause-names
declare_relations-requires-clause-names c =
    begun_names c.args.self.now c.args.form.now c.requires.sound c.in_ok-functions.ensures.fine c.as_slice.result.now (c.as_slice.ensures ∙ c.in_ok-functions.ensures.read)

pub declare_relations-requires-clause-sorts : goal.declare_relations-requires-clause-sorts
declare_relations-requires-clause-sorts c =
    begun_declarations c.args.self.now c.args.form.now c.requires.sound c.in_ok-functions.ensures.fine c.as_slice.result.now (c.as_slice.ensures ∙ c.in_ok-functions.ensures.read)

pub open_functions-requires-clause-numbers : goal.open_functions-requires-clause-numbers
open_functions-requires-clause-numbers c =
    begun_numbers c.args.self.now c.args.form.now c.requires.sound c.in_ok-functions.ensures.fine c.relations-number.result c.as_slice-2.result.now
    (c.relations-number.ensures.value ∙ ap (λ (s : State). length s.signature.relations) c.self.view_is) (c.as_slice-2.ensures ∙ c.in_ok-functions.ensures.read)

pub open_functions-requires-clause-narrow : goal.open_functions-requires-clause-narrow
open_functions-requires-clause-narrow c =
    begun_narrow c.args.self.now c.args.form.now c.requires.sound c.in_ok-functions.ensures.fine c.as_slice-2.result.now (c.as_slice-2.ensures ∙ c.in_ok-functions.ensures.read)

pub returns-in-Err-clause-fault : goal.returns-in-Err-clause-fault
returns-in-Err-clause-fault c =
    let s : State = c.args.self.now in
    let read = c.in_ok-functions.ensures.read in
    let after = c.self-2.view_is ∙ c.in_ok-declare_relations.ensures in
    let b = begun s.signature c.self-2.inside.signature c.relations-number.result (functions_of c.args.form.now) c.as_slice.result.now c.as_slice-2.result.now
    (ap (λ (t : State). t.signature) after) (c.relations-number.ensures.value ∙ ap (λ (t : State). length t.signature.relations) c.self.view_is) (c.as_slice.ensures ∙ read) (c.as_slice-2.ensures ∙ read) in
    begun_sorts_due s c.args.form.now c.requires.sound c.in_ok-functions.ensures.fine c.self-2.inside.signature c.relations-number.result c.as_slice-2.result.now c.in-Err.error b c.in-Err.ensures.fault

pub add_cases-requires-clause-room : goal.add_cases-requires-clause-room
add_cases-requires-clause-room c =
    let s : State = c.args.self.now in
    let read = c.in_ok-functions.ensures.read in
    let after = c.self-2.view_is ∙ c.in_ok-declare_relations.ensures in
    let b = begun s.signature c.self-2.inside.signature c.relations-number.result (functions_of c.args.form.now) c.as_slice.result.now c.as_slice-2.result.now
    (ap (λ (t : State). t.signature) after) (c.relations-number.ensures.value ∙ ap (λ (t : State). length t.signature.relations) c.self.view_is) (c.as_slice.ensures ∙ read) (c.as_slice-2.ensures ∙ read) in
    begun_room s c.args.form.now c.requires.sound c.in_ok-functions.ensures.fine c.self-2.inside.signature c.relations-number.result c.as_slice-2.result.now b c.in-Ok.ensures.fine c.as_slice-3.result.now (c.as_slice-3.ensures ∙ c.in-Ok.ensures.made) c.self-2.inside.rulebook (ap (λ (t : State). t.rules) after)

pub add_cases-requires-clause-few : goal.add_cases-requires-clause-few
add_cases-requires-clause-few c =
    let s : State = c.args.self.now in
    let read = c.in_ok-functions.ensures.read in
    let after = c.self-2.view_is ∙ c.in_ok-declare_relations.ensures in
    let b = begun s.signature c.self-2.inside.signature c.relations-number.result (functions_of c.args.form.now) c.as_slice.result.now c.as_slice-2.result.now
    (ap (λ (t : State). t.signature) after) (c.relations-number.ensures.value ∙ ap (λ (t : State). length t.signature.relations) c.self.view_is) (c.as_slice.ensures ∙ read) (c.as_slice-2.ensures ∙ read) in
    begun_few s c.args.form.now c.requires.sound c.in_ok-functions.ensures.fine c.self-2.inside.signature c.relations-number.result c.as_slice-2.result.now b c.in-Ok.ensures.fine c.as_slice-3.result.now (c.as_slice-3.ensures ∙ c.in-Ok.ensures.made)

pub add_cases-requires-clause-rules : goal.add_cases-requires-clause-rules
add_cases-requires-clause-rules c =
    let s : State = c.args.self.now in
    let read = c.in_ok-functions.ensures.read in
    let after = c.self-2.view_is ∙ c.in_ok-declare_relations.ensures in
    let b = begun s.signature c.self-2.inside.signature c.relations-number.result (functions_of c.args.form.now) c.as_slice.result.now c.as_slice-2.result.now
    (ap (λ (t : State). t.signature) after) (c.relations-number.ensures.value ∙ ap (λ (t : State). length t.signature.relations) c.self.view_is) (c.as_slice.ensures ∙ read) (c.as_slice-2.ensures ∙ read) in
    begun_rules s c.args.form.now c.requires.sound c.in_ok-functions.ensures.fine c.self-2.inside.signature c.relations-number.result c.as_slice-2.result.now b c.in-Ok.ensures.fine c.as_slice-3.result.now (c.as_slice-3.ensures ∙ c.in-Ok.ensures.made) c.requires.small

pub returns-in-Err-add_cases-clause-fault : goal.returns-in-Err-add_cases-clause-fault
returns-in-Err-add_cases-clause-fault c =
    let s : State = c.args.self.now in
    let read = c.in_ok-functions.ensures.read in
    let after = c.self-2.view_is ∙ c.in_ok-declare_relations.ensures in
    let b = begun s.signature c.self-2.inside.signature c.relations-number.result (functions_of c.args.form.now) c.as_slice.result.now c.as_slice-2.result.now
    (ap (λ (t : State). t.signature) after) (c.relations-number.ensures.value ∙ ap (λ (t : State). length t.signature.relations) c.self.view_is) (c.as_slice.ensures ∙ read) (c.as_slice-2.ensures ∙ read) in
    begun_flow_due s c.args.form.now c.requires.sound c.in_ok-functions.ensures.fine c.self-2.inside.signature c.relations-number.result c.as_slice-2.result.now b c.in-Ok.ensures.fine c.as_slice-3.result.now (c.as_slice-3.ensures ∙ c.in-Ok.ensures.made) c.in-Err-add_cases.error c.in-Err-add_cases.ensures.fault

pub returns-clause-fine : goal.returns-clause-fine
returns-clause-fine c =
    let s : State = c.args.self.now in
    let read = c.in_ok-functions.ensures.read in
    let after = c.self-2.view_is ∙ c.in_ok-declare_relations.ensures in
    let b = begun s.signature c.self-2.inside.signature c.relations-number.result (functions_of c.args.form.now) c.as_slice.result.now c.as_slice-2.result.now
    (ap (λ (t : State). t.signature) after) (c.relations-number.ensures.value ∙ ap (λ (t : State). length t.signature.relations) c.self.view_is) (c.as_slice.ensures ∙ read) (c.as_slice-2.ensures ∙ read) in
    begun_clean s c.args.form.now c.requires.sound c.in_ok-functions.ensures.fine c.self-2.inside.signature c.relations-number.result c.as_slice-2.result.now b c.in-Ok.ensures.fine c.as_slice-3.result.now (c.as_slice-3.ensures ∙ c.in-Ok.ensures.made) c.in-Ok-add_cases.ensures.fine
