use Rattle.interval_set.proofs.Canonical.{equal_told}
use Rattle.interval_set.proofs.set.IntervalSetPartialEq.eq.Goals as goal

pub returns-clause-equal : goal.returns-clause-equal
returns-clause-equal c = rw (c.eq.ensures, c.intervals.ensures, c.intervals-2.ensures) (equal_told c.args.self.now c.args.other.now)
