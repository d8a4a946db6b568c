use Rattle.interval_set.specs.Members.{intervals}
use Rattle.interval_set.proofs.Without.{Removing}
use Rattle.interval_set.proofs.set.IntervalSet.remove_interval.Given as goal

abbrev pub invariant-loop-i : goal.invariant-loop-i
invariant-loop-i l = Removing l.removed l.i-items l.i-index (intervals l.out)
