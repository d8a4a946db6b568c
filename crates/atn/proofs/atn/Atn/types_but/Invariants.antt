use Rattle.std.proofs.Common.{◌≡◌, not, ◌&&◌, take, ℤ}
use Rattle.interval_set.specs.Intervals.{has}
use Rattle.interval_set.specs.Members.{holds}
use Rattle.atn.proofs.atn.Atn.types_but.Given as goal

-- the numbers of the intervals so far are removed
abbrev pub invariant-loop-i : goal.invariant-loop-i
invariant-loop-i l = (x : ℤ) → holds l.types x ≡ (holds l.initial.types x && not (has (take l.i-index l.i-items) x))
