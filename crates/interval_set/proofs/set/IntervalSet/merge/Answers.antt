use Rattle.std.proofs.Common.{◌≡◌, ◌+◌, true, ◌||◌, [], ap, ◌∙◌, arith}
use Rattle.std.proofs.lemmas.Int.{ints}
use Rattle.interval_set.specs.Intervals.{inside, has, rising, smallest}
use Rattle.interval_set.specs.Members.{intervals}
use Rattle.interval_set.proofs.Rising.{place, place_fits, fit}
use Rattle.interval_set.proofs.Merged.{carry, is_both, so_far, go_left, go_right, go_both, all_merged, merged_rises, merged_holds}
use Rattle.interval_set.proofs.set.IntervalSet.merge.Goals as goal
use Rattle.interval_set.proofs.set.IntervalSet.merge.Goals.{then-i-joined, else-i-joined+then-joined-i, else-i-joined+else-joined-i}

pub overflow_add-i : goal.overflow_add-i
overflow_add-i c =
    let s = c.intervals-i-items.result.now in
    let r : rising s ≡ true = ap rising c.intervals-i-items.ensures ∙ c.args.self.now.rising in
    let f = place_fits s c.loop-i.i-index c.loop-i-test.true r in
    omega (arith, ints, f)

pub append-requires : goal.append-requires
append-requires c =
    let s = c.intervals-i-items.result.now in
    let r : rising s ≡ true = ap rising c.intervals-i-items.ensures ∙ c.args.self.now.rising in
    let f = place_fits s c.loop-i.i-index c.loop-i-test.true r in
    let g = c.loop-i.invariant.1 in
    so_far c.args.added s (c.loop-i.i-index + 1) _ c.loop-i.joined r c.requires
    (go_left c.args.added s c.loop-i.i-index (intervals c.loop-i.out) c.loop-i.joined c.loop-i.invariant c.loop-i-test.true (omega (arith, ints)))

pub append-requires-then-joined-i : goal.append-requires-then-joined-i
append-requires-then-joined-i c =
    let s = c.intervals-i-items.result.now in
    let r : rising s ≡ true = ap rising c.intervals-i-items.ensures ∙ c.args.self.now.rising in
    let f = place_fits s c.loop-i.i-index c.loop-i-test.true r in
    let g = c.loop-i.invariant.1 in
    so_far c.args.added s (c.loop-i.i-index + 1) _ _ r c.requires
    (go_right c.args.added s c.loop-i.i-index (intervals c.loop-i.out) c.loop-i.joined c.loop-i.invariant r c.loop-i-test.true (omega (arith, ints)) (omega (arith, ints)))

pub loop-i-preserved : goal.loop-i-preserved
loop-i-preserved c =
    let s = c.intervals-i-items.result.now in
    let r : rising s ≡ true = ap rising c.intervals-i-items.ensures ∙ c.args.self.now.rising in
    let f = place_fits s c.loop-i.i-index c.loop-i-test.true r in
    let g = c.loop-i.invariant.1 in
    elim c.if-i-joined.branch [
      | then-i-joined w ↦ carry c.args.added s (c.loop-i.i-index + 1) (ap intervals w.out-is ∙ w.append.ensures) w.joined-is
          (go_left c.args.added s c.loop-i.i-index (intervals c.loop-i.out) c.loop-i.joined c.loop-i.invariant c.loop-i-test.true (omega (arith, ints)))
      | else-i-joined+then-joined-i w ↦ carry c.args.added s (c.loop-i.i-index + 1) (ap intervals w.out-is ∙ w.append-then-joined-i.ensures) w.joined-is
          (go_right c.args.added s c.loop-i.i-index (intervals c.loop-i.out) c.loop-i.joined c.loop-i.invariant r c.loop-i-test.true (omega (arith, ints)) (omega (arith, ints)))
      | else-i-joined+else-joined-i w ↦ carry c.args.added s (c.loop-i.i-index + 1) (ap intervals w.out-is) (w.joined-is ∙ is_both w.union-joined.result c.loop-i.joined (place s c.loop-i.i-index) w.union-joined.ensures.low w.union-joined.ensures.high)
          (go_both c.args.added s c.loop-i.i-index (intervals c.loop-i.out) c.loop-i.joined c.loop-i.invariant r c.loop-i-test.true (omega (arith, ints)) (omega (arith, ints)))
    ]

pub append-requires-2 : goal.append-requires-2
append-requires-2 c =
    let s = c.intervals-i-items.result.now in
    let r : rising s ≡ true = ap rising c.intervals-i-items.ensures ∙ c.args.self.now.rising in
    let all = all_merged c.args.added s c.loop-i.i-index (intervals c.loop-i.out) c.loop-i.joined c.loop-i.invariant c.loop-i-test.false in
    ap rising all ∙ merged_rises smallest c.args.added s (fit smallest c.args.added [] c.requires) r

pub returns : goal.returns
returns c x =
    let s = c.intervals-i-items.result.now in
    let r : rising s ≡ true = ap rising c.intervals-i-items.ensures ∙ c.args.self.now.rising in
    merged_holds c.args.added s _ r c.requires (c.append-2.ensures ∙ all_merged c.args.added s c.loop-i.i-index (intervals c.loop-i.out) c.loop-i.joined c.loop-i.invariant c.loop-i-test.false) x
    ∙ ap (λ is. has is x || inside c.args.added x) c.intervals-i-items.ensures
