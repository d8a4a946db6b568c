use Rattle.std.proofs.Common.{[], refl, ap, ◌∙◌}
use Rattle.interval_set.specs.Intervals.{smallest, rising}
use Rattle.interval_set.proofs.Rising.{place, place_fits, risen}
use Rattle.interval_set.proofs.set.IntervalSet.add_set.Goals as goal

pub merge-requires : goal.merge-requires
merge-requires c = risen smallest (place c.intervals-i-items.result.now c.loop-i.i-index) [] (place_fits c.intervals-i-items.result.now c.loop-i.i-index c.loop-i-test.true (ap rising c.intervals-i-items.ensures ∙ c.args.other.now.rising)) refl
