use Rattle.std.proofs.Common.{◌≡◌, not, ◌&&◌, drop, ℤ}
use Rattle.interval_set.specs.Intervals.{has}
use Rattle.interval_set.specs.Members.{holds}
use Rattle.interval_set.proofs.set.IntervalSet.subtract.Given as goal

-- without what is still to be removed, what is to be left is left
abbrev pub invariant-loop-i : goal.invariant-loop-i
invariant-loop-i l = (x : ℤ) → (holds l.self x && not (has (drop l.i-index l.i-items) x)) ≡ (holds l.initial.self x && not (has l.i-items x))
