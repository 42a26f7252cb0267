use Rattle.std.proofs.Common.{[], ◌++◌, ap, ◌∙◌}
use Rattle.spelling_tests.proofs.WholeTexts.{refused_reads, finished_reads}
use Rattle.spelling_tests.proofs.reading.read_into.Goals as goal

pub returns-in-Ok : goal.returns-in-Ok
returns-in-Ok c =
    let feeds = rw c.in-Ok.is at (c.feed.ensures.feeds [] [] c.new-reader.ensures.stands) in
    let added = feeds.1.added in
    let finishes = c.finish.ensures.finishes c.args.text.now ([] ++ added) feeds.1.stands in
    finished_reads c.args.text.now ([] ++ added) c.feed.new.into c.finish.new.into c.finish.result (feeds.1.grows ∙ ap (λ v. v ++ added) c.requires.empty) finishes

pub returns-in-Err : goal.returns-in-Err
returns-in-Err c =
    let feeds = rw c.in-Err.is at (c.feed.ensures.feeds [] [] c.new-reader.ensures.stands) in
    refused_reads c.args.text.now c.feed.new.self c.args.into.now c.feed.new.into c.in-Err.error feeds
