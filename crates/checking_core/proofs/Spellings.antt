-- Texts that a reader was fed whole.
use Rattle.std.proofs.Common.{◌≡◌, ◌+◌, ◌<◌, ◌^◌, ℕ, List, ◌++◌, length, length-append, All, sym, ap, ◌∙◌, subst, arith}
use Rattle.sexpr_core.specs.declared.form.Sexpr.{Sexpr}
use Rattle.sexpr_core.specs.Feeds.{Gave, StandsFor, bytes_fed}
use Rattle.sexpr_core.specs.Sizes.{IsSmall}
use Rattle.sexpr_core.specs.Spelling.{Spell}
use Rattle.sexpr_core.proofs.Small.{spelled_small}
use Rattle.checking_core.specs.declared.file.AnswerFile.{AnswerFile}
use Rattle.checking_core.specs.Reading.{IsReading}

pub read_room : (file : AnswerFile) (bytes : List ℕ) (more : ℕ) → IsReading file bytes → length bytes + more < 2 ^ 32 → bytes_fed file.reader + more < 2 ^ 32
read_room file bytes more r room = omega (arith, r.reads.count, room)

pub count_room : (file : AnswerFile) (bytes : List ℕ) (more : ℕ) → IsReading file bytes → length bytes + more < 2 ^ 32 → file.count + more < 2 ^ 32
count_room file bytes more r room = omega (arith, r.count, room)

-- a piece more was read
pub fed : (old new : AnswerFile) (bytes piece : List ℕ) → IsReading old bytes →
    ((given : List Sexpr) → StandsFor old.reader bytes given → Gave new.reader (bytes ++ piece) given old.forms new.forms) → new.count ≡ old.count + length piece → IsReading new (bytes ++ piece)
fed old new bytes piece r gave count =
    let g = gave old.forms r.reads in
    record {
      count = count ∙ ap (λ n. n + length piece) r.count ∙ sym (length-append bytes piece);
      reads = subst (StandsFor new.reader (bytes ++ piece)) (sym g.grows) g.stands;
    }

-- the forms at the end are those that the text spells
pub spelled_end : (text : List ℕ) (had has added : List Sexpr) → length text < 2 ^ 32 → has ≡ had ++ added → Spell text (had ++ added) → Spell text has × All IsSmall has
spelled_end text had has added short grows spells =
    let spelled : Spell text has = subst (Spell text) (sym grows) spells in
    (spelled, spelled_small text has short spelled)
