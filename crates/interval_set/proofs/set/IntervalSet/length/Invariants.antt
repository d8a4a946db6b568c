use Rattle.std.proofs.Common.{◌≡◌, ◌+◌, drop}
use Rattle.interval_set.proofs.Counted.{total}
use Rattle.interval_set.proofs.set.IntervalSet.length.Given as goal

abbrev pub invariant-loop-i : goal.invariant-loop-i
invariant-loop-i l = l.n + total (drop l.i-index l.i-items) ≡ total l.i-items
