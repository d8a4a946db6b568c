use Rattle.std.proofs.Common.{◌≡◌, ◌||◌, drop, ℤ}
use Rattle.interval_set.specs.Intervals.{has}
use Rattle.interval_set.specs.Members.{holds}
use Rattle.interval_set.proofs.set.IntervalSet.add_set.Given as goal

-- what is still to be added makes up the whole
abbrev pub invariant-loop-i : goal.invariant-loop-i
invariant-loop-i l = (x : ℤ) → (holds l.self x || has (drop l.i-index l.i-items) x) ≡ (holds l.initial.self x || has l.i-items x)
