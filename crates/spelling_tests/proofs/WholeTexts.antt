-- Reading a text in one piece.
use Rattle.std.proofs.Common.{◌≡◌, ℕ, List, [], ◌++◌, Result, sym, ap, ◌∙◌, subst}
use Rattle.std.specs.Prelude.{Ok, Err}
use Rattle.sexpr_core.specs.declared.fault.FeedError.{FeedError}
use Rattle.sexpr_core.specs.declared.fault.FeedError.TheVariants as error
use Rattle.sexpr_core.specs.declared.form.Sexpr.{Sexpr}
use Rattle.sexpr_core.specs.declared.reader.Reader.{Reader}
use Rattle.sexpr_core.specs.Feeds.{Feeds, Finishes}
use Rattle.sexpr_core.specs.Spelling.{Spell}
use Rattle.sexpr_core.proofs.Finishing.{fault_no_spelling}
use Rattle.sexpr_core.proofs.PrefixesOnce.{not_spelled}
use Rattle.spelling_tests.specs.Reads.{Reads}

pub refused_reads : (text : List ℕ) (reader : Reader) (had has : List Sexpr) (found : FeedError) → Feeds reader text [] had has (Err found) → Reads text has (Err found)
refused_reads text reader had has (error.Lex fault) f = λ forms h. not_spelled text forms f.0 h
refused_reads text reader had has error.Memory f = tt

pub finished_reads : (text : List ℕ) (given had has : List Sexpr) (result : Result (Unit {0}) FeedError) → had ≡ given → Finishes text given had has result → Reads text has result
finished_reads text given had has (Ok done) e f = subst (Spell text) (sym (f.1 ∙ ap (λ v. v ++ f.0) e)) f.2
finished_reads text given had has (Err (error.Lex fault)) e f = fault_no_spelling text f.1
finished_reads text given had has (Err error.Memory) e f = tt
