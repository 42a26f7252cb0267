-- A text that is judged as its bytes come in pieces.
use Rattle.std.proofs.Common.{◌≡◌, ◌+◌, ◌<◌, ◌≤◌, ◌^◌, ℕ, zero, suc, Option, Some, None, option_map, slice_get, drop, Result, Ok, Err, OnOk, List, [], ◌∷◌, ◌++◌, length, All, refl, sym, ap, ap₂, subst, ◌∙◌, arith}
use Rattle.std.specs.Result.{result_err}
use Rattle.std.proofs.lemmas.List.{length-append}
use Rattle.std.proofs.lemmas.Option.{slice_get_within}
use Rattle.std.proofs.lemmas.List.Elements.{All-tail}
use Rattle.sexpr_core.specs.declared.fault.FeedError.{FeedError}
use Rattle.sexpr_core.specs.declared.fault.FeedError.TheVariants as feed
use Rattle.sexpr_core.specs.declared.form.Sexpr.{Sexpr}
use Rattle.sexpr_core.specs.declared.reader.Reader.{Reader}
use Rattle.sexpr_core.specs.Feeds.{Finishes, Gave, StandsFor, bytes_fed}
use Rattle.sexpr_core.specs.Sizes.{IsSmall}
use Rattle.sexpr_core.proofs.Small.{spelled_small}
use Rattle.problem_core.specs.Problems.{Parts}
use Rattle.sort_core.specs.declared.error.ElabError.{ElabError}
use Rattle.sort_core.specs.declared.error.ElabError.TheVariants as error
use Rattle.syntax_core.specs.declared.fault.Fault.{Fault}
use Rattle.name_core.specs.States.{start}
use Rattle.elab_core.specs.declared.judge.Judge.{Judge}
use Rattle.elab_core.specs.Elaborating.{answered, made, next}
use Rattle.elab_core.specs.Feeding.{HasRoom, IsAnswered, IsEnding, IsJudgement, IsJudging, IsRest}
use Rattle.state_core.specs.Commands.{Outcome, stands, step}
use Rattle.elab_core.specs.Judging.{Judges, after, closed, cut_short, too_long, spelled, misspelled}

pub read_room : (judge : Judge) (more : ℕ) → HasRoom judge more → bytes_fed judge.reader + more < 2 ^ 32
read_room judge more r = omega (arith, r.judging.reads.count, r.room)

after-append : (o : Outcome) (xs ys : List Sexpr) → after (after o xs) ys ≡ after o (xs ++ ys)
after-append o [] ys = refl
after-append o (x ∷ xs) ys = after-append (step o x) xs ys

All-right : {X : Type 0} (P : X → Type 0) (xs ys : List X) → All P (xs ++ ys) → All P ys
All-right P [] ys h = h
All-right P (x ∷ xs) ys h = All-right P xs ys (All-tail P x (xs ++ ys) h)

pub fed_short : (bytes piece : List ℕ) → length bytes + length piece < 2 ^ 32 → length (bytes ++ piece) < 2 ^ 32
fed_short bytes piece room = subst (λ n. n < 2 ^ 32) (sym (length-append bytes piece)) room

pub added_small : (reader : Reader) (bytes : List ℕ) (given had has : List Sexpr) → had ≡ [] → length bytes < 2 ^ 32 → Gave reader bytes given had has → All IsSmall has
added_small reader bytes given had has none short g =
    subst (All IsSmall) (sym (g.grows ∙ ap (λ xs. xs ++ g.added) none)) (All-right IsSmall given g.added (g.stands.small short))

pub fed : (old new : Judge) (bytes piece : List ℕ) (has : List Sexpr) → IsJudging old bytes →
    ((given : List Sexpr) → StandsFor old.reader bytes given → Gave new.reader (bytes ++ piece) given old.forms has) →
    new.elaborator ≡ option_map (λ outcome. after outcome has) old.elaborator → new.forms ≡ [] → new.count ≡ old.count + length piece → IsJudging new (bytes ++ piece)
fed old new bytes piece has j gave judged none count =
    let g = gave j.given j.reads in
    let grown : has ≡ g.added = g.grows ∙ ap (λ xs. xs ++ g.added) j.judged in
    record {
      count = count ∙ ap (λ n. n + length piece) j.count ∙ sym (length-append bytes piece);
      given = j.given ++ g.added;
      reads = g.stands;
      outcome = judged ∙ ap (option_map (λ outcome. after outcome has)) j.outcome ∙ ap Some (ap (after (after (stands start) j.given)) grown ∙ after-append (stands start) j.given g.added);
      judged = none;
    }

pub ending_small : (bytes : List ℕ) (given had has : List Sexpr) (read : Result (Unit {0}) FeedError) → had ≡ [] → length bytes < 2 ^ 32 → Finishes bytes given had has read → OnOk read (All IsSmall has)
ending_small bytes given had has (Ok done) none short f =
    subst (All IsSmall) (sym (f.1 ∙ ap (λ xs. xs ++ f.0) none)) (All-right IsSmall given f.0 (spelled_small bytes (given ++ f.0) short f.2))
ending_small bytes given had has (Err e) none short f = tt

answered_is : (text : List ℕ) (judged : Result Parts Fault) (result : Result Parts ElabError) → Judges text judged → IsAnswered judged result → IsJudgement text result
answered_is text judged (Ok problem) j a = subst (Judges text) a j
answered_is text judged (Err (error.Fault fault)) j a = subst (Judges text) a j
answered_is text judged (Err error.Memory) j a = tt

no_judgement : (text : List ℕ) (result : Result Parts ElabError) → result ≡ Err error.Memory → IsJudgement text result
no_judgement text result e = subst (IsJudgement text) (sym e) tt

pub ended : (bytes : List ℕ) (given had has : List Sexpr) (end : ℕ) (read : Result (Unit {0}) FeedError) (result : Result Parts ElabError) → had ≡ [] → end ≡ length bytes → length bytes ≤ 1048576 →
    Finishes bytes given had has read → IsEnding read has end (after (stands start) given) result → IsJudgement bytes result
ended bytes given had has end (Ok done) result none at short f e =
    let grown : has ≡ f.0 = f.1 ∙ ap (λ xs. xs ++ f.0) none in
    let is : closed end (after (after (stands start) given) has) ≡ closed (length bytes) (after (stands start) (given ++ f.0)) =
    ap₂ closed at (ap (after (after (stands start) given)) grown ∙ after-append (stands start) given f.0) in
    answered_is bytes (closed end (after (after (stands start) given) has)) result (subst (Judges bytes) (sym is) (spelled (given ++ f.0) short f.2)) e
ended bytes given had has end (Err (feed.Lex fault)) result none at short f e =
    answered_is bytes (Err (cut_short fault.place fault.reason (after (stands start) given))) result (misspelled given fault.place fault.reason short f.1 f.2) e
ended bytes given had has end (Err feed.Memory) result none at short f e = no_judgement bytes result e

some_error : (e f : ElabError) → Some e ≡ Some f → e ≡ f
some_error e f same = cc

error_is : (e f : ElabError) → ◌≡◌ {A = Result (Unit {0}) ElabError} (Err e) (Err f) → e ≡ f
error_is e f same = some_error e f (ap result_err same)

cut_answered : (fault : Fault) (e : ElabError) → ◌≡◌ {A = Result (Unit {0}) ElabError} (Err e) (Err (error.Fault fault)) → IsAnswered (Err fault) (Err e)
cut_answered fault e same = subst (λ (x : ElabError). IsAnswered (Err fault) (Err x)) (sym (error_is e (error.Fault fault) same)) refl

pub rest_refused : (read : Result (Unit {0}) FeedError) (forms : List Sexpr) (end : ℕ) (outcome : Outcome) (new : Option Outcome) (e : ElabError) → IsRest read forms outcome new (Err e) → IsEnding read forms end outcome (Err e)
rest_refused (Ok done) forms end outcome new (error.Fault fault) r = absurd r
rest_refused (Ok done) forms end outcome new error.Memory r = tt
rest_refused (Err (feed.Lex fault)) forms end outcome new e r = cut_answered (cut_short fault.place fault.reason outcome) e r
rest_refused (Err feed.Memory) forms end outcome new e r = ap Err (error_is e error.Memory r)

pub answered_self : (judged : Result Parts Fault) → IsAnswered judged (answered judged)
answered_self (Ok problem) = refl
answered_self (Err fault) = refl

pub rest_judged : (read : Result (Unit {0}) FeedError) (forms : List Sexpr) (end : ℕ) (outcome : Outcome) (new : Option Outcome) (done : Unit {0}) (result : Result Parts ElabError) →
    IsRest read forms outcome new (Ok done) → result ≡ made end new → IsEnding read forms end outcome result
rest_judged (Ok done) forms end outcome new d result r is =
    subst (IsAnswered (closed end (after outcome forms))) (sym (is ∙ ap (made end) r)) (answered_self (closed end (after outcome forms)))
rest_judged (Err (feed.Lex fault)) forms end outcome new d result r is = absurd cc
rest_judged (Err feed.Memory) forms end outcome new d result r is = absurd cc

pub long_judged : (judge : Judge) (bytes : List ℕ) (e : ElabError) → IsJudging judge bytes → 1048576 < judge.count → e ≡ error.Fault (record { place = 1048576; reason = 50; limit = 1 }) → IsJudgement bytes (Err e)
long_judged judge bytes e j long is = subst (λ (x : ElabError). IsJudgement bytes (Err x)) (sym is) (too_long (omega (arith, j.count, long)))

some_form : (x y : Sexpr) → Some x ≡ Some y → x ≡ y
some_form x y same = cc

drop_at : (xs : List Sexpr) (k : ℕ) (x : Sexpr) → slice_get xs k ≡ Some x → drop k xs ≡ x ∷ drop (suc k) xs
drop_at [] k x at = absurd (omega (arith, slice_get_within [] k x at))
drop_at (y ∷ ys) zero x at = ap (λ z. z ∷ ys) (some_form y x at)
drop_at (y ∷ ys) (suc k) x at = drop_at ys k x at

plus_one : (k : ℕ) → k + 1 ≡ suc k
plus_one k = omega arith

-- one form more is judged
pub judged_next : (o : Option Outcome) (forms : List Sexpr) (k : ℕ) (form : Sexpr) → slice_get forms k ≡ Some form →
    option_map (λ outcome. after outcome (drop (k + 1) forms)) (next o form) ≡ option_map (λ outcome. after outcome (drop k forms)) o
judged_next None forms k form at = refl
judged_next (Some p) forms k form at =
    ap Some (ap (λ n. after (step p form) (drop n forms)) (plus_one k) ∙ sym (ap (after p) (drop_at forms k form at)))

pub no_form : (forms : List Sexpr) (k : ℕ) → k < length forms → slice_get forms k ≡ None → ⊥
no_form [] k h e = absurd (omega (arith, h))
no_form (x ∷ xs) zero h e = cc
no_form (x ∷ xs) (suc k) h e = no_form xs k (omega (arith, h)) e
