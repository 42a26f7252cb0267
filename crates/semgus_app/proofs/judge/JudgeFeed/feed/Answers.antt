use Rattle.semgus_app.proofs.judge.JudgeFeed.feed.Goals as goal

pub feed-requires : goal.feed-requires
feed-requires c = let fed = c.requires in record { bytes = fed.0; judging = fed.1; room = fed.2 }
