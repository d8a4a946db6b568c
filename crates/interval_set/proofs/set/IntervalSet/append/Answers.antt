use Rattle.interval_set.specs.Members.{intervals}
use Rattle.interval_set.proofs.Rising.{room}
use Rattle.interval_set.proofs.set.IntervalSet.append.Goals as goal

pub returns : goal.returns
returns c = (c.push.ensures.room (room (intervals c.args.self.now) c.args.i c.requires)).1
