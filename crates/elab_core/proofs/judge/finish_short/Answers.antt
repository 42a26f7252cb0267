use Rattle.name_core.specs.States.{start}
use Rattle.state_core.specs.Commands.{stands}
use Rattle.elab_core.specs.Judging.{after}
use Rattle.elab_core.proofs.Judged.{ended, ending_small}
use Rattle.elab_core.proofs.judge.finish_short.Goals as goal

pub finish_after-requires : goal.finish_after-requires
finish_after-requires c =
    ending_small c.requires.0 c.requires.1 c.args.forms c.finish-read.new.into c.finish-read.result c.requires.4 c.requires.3 (c.finish-read.ensures.finishes c.requires.0 c.requires.1 c.requires.2)

pub returns : goal.returns
returns c = λ bytes given reads at short none e.
    ended bytes given c.args.forms c.finish-read.new.into c.args.end c.finish-read.result c.finish_after.result none at short (c.finish-read.ensures.finishes bytes given reads)
    (c.finish_after.ensures (after (stands start) given) e)
