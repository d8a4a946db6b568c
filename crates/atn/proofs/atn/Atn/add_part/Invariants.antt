use Rattle.std.proofs.Common.{◌≡◌, ◌||◌, take, ℤ}
use Rattle.interval_set.specs.Intervals.{has}
use Rattle.interval_set.specs.Members.{holds}
use Rattle.atn.proofs.atn.Atn.add_part.Given as goal

-- the numbers of the intervals so far are added
abbrev pub invariant-loop-i : goal.invariant-loop-i
invariant-loop-i l = (x : ℤ) → holds l.set x ≡ (holds l.initial.set x || has (take l.i-index l.i-items) x)
