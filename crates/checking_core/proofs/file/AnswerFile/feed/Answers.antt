use Rattle.checking_core.proofs.Spellings.{read_room}
use Rattle.checking_core.proofs.file.AnswerFile.feed.Goals as goal

pub read-requires : goal.read-requires
read-requires c = let r = c.requires in read_room c.args.self.now r.0 _ r.1 r.2
