-- What a judge stands for whose text comes in pieces, and what it answers at the end.
use Rattle.std.specs.Prelude.{◌≡◌, ◌+◌, ◌<◌, ◌^◌, ℕ, Option, Some, Result, Ok, Err, List, [], length}
use Rattle.sexpr_core.specs.declared.form.Sexpr.{Sexpr}
use Rattle.sexpr_core.specs.declared.fault.FeedError.{FeedError}
use Rattle.sexpr_core.specs.declared.fault.FeedError.TheVariants as feed
use Rattle.sexpr_core.specs.Feeds.{StandsFor}
use Rattle.problem_core.specs.Problems.{Parts}
use Rattle.syntax_core.specs.declared.fault.Fault.{Fault}
use Rattle.sort_core.specs.declared.error.ElabError.{ElabError}
use Rattle.sort_core.specs.declared.error.ElabError.TheVariants as error
use Rattle.name_core.specs.States.{start}
use Rattle.elab_core.specs.declared.judge.Judge.{Judge}
use Rattle.state_core.specs.Commands.{Outcome, stands}
use Rattle.elab_core.specs.Judging.{Judges, after, closed, cut_short}

-- these bytes were fed, in whatever pieces, and the forms that they give were judged
pub record IsJudging (judge : Judge) (bytes : List ℕ) : Type 0 where
  pub count : judge.count ≡ length bytes
  pub given : List Sexpr
  pub reads : StandsFor judge.reader bytes given
  pub outcome : judge.elaborator ≡ Some (after (stands start) given)
  pub judged : judge.forms ≡ []

-- so many bytes more can be counted
pub record HasRoom (judge : Judge) (more : ℕ) : Type 0 where
  pub bytes : List ℕ
  pub judging : IsJudging judge bytes
  pub room : length bytes + more < 2 ^ 32

-- the text is judged to be this problem, or to have this fault, or memory was wanted
abbrev pub IsJudgement : List ℕ → Result Parts ElabError → Type 0
IsJudgement text (Ok problem) = Judges text (Ok problem)
IsJudgement text (Err (error.Fault fault)) = Judges text (Err fault)
IsJudgement text (Err error.Memory) = Unit {0}

-- What comes of the last forms, by what the reader says at the end: they are judged after this outcome, or the text is
-- refused that is no spelling, or memory was wanted.
abbrev pub IsRest : Result (Unit {0}) FeedError → List Sexpr → Outcome → Option Outcome → Result (Unit {0}) ElabError → Type 0
IsRest (Ok done) forms outcome new (Ok judged) = new ≡ Some (after outcome forms)
IsRest (Ok done) forms outcome new (Err error.Memory) = Unit {0}
IsRest (Ok done) forms outcome new (Err (error.Fault fault)) = ⊥
IsRest (Err (feed.Lex fault)) forms outcome new result = result ≡ Err (error.Fault (cut_short fault.place fault.reason outcome))
IsRest (Err feed.Memory) forms outcome new result = result ≡ Err error.Memory

-- this is answered, or want of memory
abbrev pub IsAnswered : Result Parts Fault → Result Parts ElabError → Type 0
IsAnswered judged (Err error.Memory) = Unit {0}
IsAnswered judged (Err (error.Fault fault)) = judged ≡ Err fault
IsAnswered judged (Ok problem) = judged ≡ Ok problem

-- what is answered at the end of a text, by what its reader says there, where these forms are left after this outcome
abbrev pub IsEnding : Result (Unit {0}) FeedError → List Sexpr → ℕ → Outcome → Result Parts ElabError → Type 0
IsEnding (Ok done) forms end outcome result = IsAnswered (closed end (after outcome forms)) result
IsEnding (Err (feed.Lex fault)) forms end outcome result = IsAnswered (Err (cut_short fault.place fault.reason outcome)) result
IsEnding (Err feed.Memory) forms end outcome result = result ≡ Err error.Memory
