use Rattle.interval_set.specs.Members.{intervals}
use Rattle.interval_set.proofs.Merged.{Merging}
use Rattle.interval_set.proofs.set.IntervalSet.merge.Given as goal

abbrev pub invariant-loop-i : goal.invariant-loop-i
invariant-loop-i l = Merging l.initial.joined l.i-items l.i-index (intervals l.out) l.joined
