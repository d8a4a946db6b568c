use Rattle.interval_set.proofs.Canonical.{canonical, equal_told}
use Rattle.interval_set.proofs.theorems.sets_are_canonical.Goals as goal

pub returns : goal.returns
returns c = record { canonical = canonical; equal = equal_told }
