use Rattle.semgus_app.proofs.answer.AnswerFileFeed.feed.Goals as goal

pub feed-requires : goal.feed-requires
feed-requires c = c.requires
