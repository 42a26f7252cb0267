use Rattle.std.proofs.Common.{List, ℕ, subst}
use Rattle.semgus_app.proofs.Dues.{some_same}
use Rattle.semgus_app.specs.Outputs.{IsPrinted}
use Rattle.semgus_app.proofs.Outcomes.{Ran, bad_words_clause, output_clause, memory_clause, due_clause, complete_clause, found_clause, no_term_clause, shown_clause, valid_clause, cannot_open_clause, read_fault_clause, absent_clause, second_absent_clause, told_clause, line_clause, printed_line}
use Rattle.semgus_app.proofs.program.run.Given.{Over}
use Rattle.semgus_app.proofs.program.run.Goals as goal

-- the task of the words, its output, and what was printed
ran : (g : Over) (c : goal.After-drop-due g) → Ran c.args.words.now (g.F.Files.held c.args.files.now) (g.F.Files.steady c.args.files.now)
    (g.F.Files.open_faults c.args.files.now) (g.F.Files.open_faults c.output_of.new.files) (g.F.Files.read_faults c.args.files.now) (g.F.Files.read_faults c.output_of.new.files)
    c.put_text-in-Ok.result (g.S.Sink.faults c.args.out.now) (g.S.Sink.faults c.put_text-in-Ok.new.out) (g.S.Sink.written c.args.out.now) (g.S.Sink.written c.put_text-in-Ok.new.out)
ran g c = record {
  task = _;
  asks = c.in-Some.ensures;
  state = c.in-Ok.due.status;
  text = c.in-Ok.due.text;
  output = c.in-Ok.ensures.output;
  printed = subst (λ (text : List ℕ). IsPrinted c.put_text-in-Ok.result (g.S.Sink.faults c.args.out.now) (g.S.Sink.faults c.put_text-in-Ok.new.out) (g.S.Sink.written c.args.out.now) (g.S.Sink.written c.put_text-in-Ok.new.out) c.in-Ok.due.status text) c.as_slice.ensures c.put_text-in-Ok.ensures;
}

pub returns-in-Ok-clause-bad_words_only : goal.returns-in-Ok-clause-bad_words_only
returns-in-Ok-clause-bad_words_only g c = λ e task asks. absurd (bad_words_clause _ _ _ _ _ _ _ _ _ _ _ _ (ran g c) e)

pub returns-in-Ok-clause-output : goal.returns-in-Ok-clause-output
returns-in-Ok-clause-output g c = output_clause _ _ _ _ _ _ _ _ _ _ _ _ (ran g c)

pub returns-in-Ok-clause-memory : goal.returns-in-Ok-clause-memory
returns-in-Ok-clause-memory g c = λ e. absurd (memory_clause _ _ _ _ _ _ _ _ _ _ _ _ (ran g c) e)

pub returns-in-Ok-clause-due : goal.returns-in-Ok-clause-due
returns-in-Ok-clause-due g c = due_clause _ _ _ _ _ _ _ _ _ _ _ _ (ran g c)

pub returns-in-Ok-clause-complete : goal.returns-in-Ok-clause-complete
returns-in-Ok-clause-complete g c = complete_clause _ _ _ _ _ _ _ _ _ _ _ _ (ran g c)

pub returns-in-Ok-clause-found : goal.returns-in-Ok-clause-found
returns-in-Ok-clause-found g c = found_clause _ _ _ _ _ _ _ _ _ _ _ _ (ran g c)

pub returns-in-Ok-clause-no_term : goal.returns-in-Ok-clause-no_term
returns-in-Ok-clause-no_term g c = no_term_clause _ _ _ _ _ _ _ _ _ _ _ _ (ran g c)

pub returns-in-Ok-clause-shown : goal.returns-in-Ok-clause-shown
returns-in-Ok-clause-shown g c = shown_clause _ _ _ _ _ _ _ _ _ _ _ _ (ran g c)

pub returns-in-Ok-clause-valid : goal.returns-in-Ok-clause-valid
returns-in-Ok-clause-valid g c = valid_clause _ _ _ _ _ _ _ _ _ _ _ _ (ran g c)

pub returns-in-Ok-clause-cannot_open : goal.returns-in-Ok-clause-cannot_open
returns-in-Ok-clause-cannot_open g c = cannot_open_clause _ _ _ _ _ _ _ _ _ _ _ _ (ran g c)

pub returns-in-Ok-clause-read_fault : goal.returns-in-Ok-clause-read_fault
returns-in-Ok-clause-read_fault g c = read_fault_clause _ _ _ _ _ _ _ _ _ _ _ _ (ran g c)

pub returns-in-Ok-clause-not_held : goal.returns-in-Ok-clause-not_held
returns-in-Ok-clause-not_held g c = absent_clause _ _ _ _ _ _ _ _ _ _ _ _ (ran g c)

pub returns-in-Ok-clause-second_not_held : goal.returns-in-Ok-clause-second_not_held
returns-in-Ok-clause-second_not_held g c = second_absent_clause _ _ _ _ _ _ _ _ _ _ _ _ (ran g c)

pub returns-in-Ok-clause-steady_opens : goal.returns-in-Ok-clause-steady_opens
returns-in-Ok-clause-steady_opens g c = told_clause _ _ _ _ _ _ _ _ _ _ _ _ (ran g c)

pub returns-in-Ok-clause-line : goal.returns-in-Ok-clause-line
returns-in-Ok-clause-line g c = line_clause _ _ _ _ _ _ _ _ _ _ _ _ (ran g c)

pub returns-in_default-clause-line : goal.returns-in_default-clause-line
returns-in_default-clause-line g c = printed_line _ _ _ _ _ _ _ c.put_text.ensures (some_same _)
